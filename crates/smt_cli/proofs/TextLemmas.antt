-- A text that is too long says nothing, and so many bytes of it that these are too many already neither.
use Rattle.std.proofs.Common.{◌≡◌, ◌∙◌, ◌<◌, ◌≤◌, ℕ, List, length, take, refl, sym, ap, arith, tests, Bool, true, false, if◌then◌else◌, Option, None, Err}
use Rattle.std.specs.Prelude.{nat_lt, nat_eq}
use Rattle.std.specs.List.{list_any}
use Rattle.std.proofs.lemmas.List.{take_all, length-take-le}
use Rattle.sexp.specs.Tree.{Trees}
use Rattle.sexp.specs.TextTrees.{forest_of, unless_long}
use Rattle.sexp.specs.declared.token.SexpFault.TheVariants as lexical
use Rattle.goal_text.specs.GoalRead as goals
use Rattle.goal_text.specs.GoalRead.{goal_read, lexical_fault}
use Rattle.goal_text.specs.Read.{Read}
use Rattle.first_form.specs.Forest.{longest, readable, trees_of}
use Rattle.first_form.specs.ProofForm.{proof_form}
use Rattle.first_form.specs.Source.{Source}
use Rattle.first_form.proofs.ForestLemmas.{longest_is}

is_long : (text : List ℕ) → 4194304 < length text → nat_lt 4194304 (length text) ≡ true
is_long text h = grind (arith, tests, h)

-- of two texts that are both too long, or the one is the other's front and not too long
cut_by : {A : Type 0} (f : List ℕ → A) (most : A) → ((text : List ℕ) → nat_lt 4194304 (length text) ≡ true → f text ≡ most) → (text : List ℕ) → f (take 4194305 text) ≡ f text
cut_by {A} f most long text = by (nat_lt 4194304 (length text)) refl
  where
    by : (b : Bool) → nat_lt 4194304 (length text) ≡ b → f (take 4194305 text) ≡ f text
    by true e =
        let h : 4194304 < length text = grind (arith, tests, e) in
        let l : length (take 4194305 text) ≡ 4194305 = length-take-le 4194305 text (omega arith) in
        long (take 4194305 text) (is_long (take 4194305 text) (omega arith)) ∙ sym (long text e)
    by false e =
        let h : length text ≤ 4194304 = grind (arith, tests, e) in
        ap f (take_all 4194305 text (omega arith))

-- ---- a proof file

no_trees_long : (text : List ℕ) → nat_lt 4194304 (length text) ≡ true → trees_of text ≡ None
unfolding trees_of
no_trees_long text h = by (list_any (nat_eq 59) text)
  where
    there : nat_lt longest (length text) ≡ true
    there = ap (λ n. nat_lt n (length text)) longest_is ∙ h

    long : readable (unless_long longest text (forest_of text)) ≡ None
    long = rw there refl

    nothing : Option Trees
    nothing = None

    by : (b : Bool) → (if b then nothing else readable (unless_long longest text (forest_of text))) ≡ None
    by true = refl
    by false = long

pub proof_cut : (source : Source) (text all : List ℕ) → text ≡ take 4194305 all → proof_form source text ≡ proof_form source all
unfolding proof_form
proof_cut source text all e = let same : trees_of text ≡ trees_of all = ap (λ t. trees_of t) e ∙ cut_by (λ t. trees_of t) None no_trees_long all in rw same refl

-- ---- a goal file

too_long : (text : List ℕ) → nat_lt 4194304 (length text) ≡ true → goals.goal_read text ≡ Err (lexical_fault (lexical.TooLong 4194304))
unfolding goals.goal_read goals.trees_of
too_long text h = rw h refl

pub goal_cut : (text all : List ℕ) → text ≡ take 4194305 all → goal_read text ≡ goal_read all
goal_cut text all e = ap (λ t. goal_read t) e ∙ cut_by (λ t. goal_read t) (Err (lexical_fault (lexical.TooLong 4194304))) too_long all
