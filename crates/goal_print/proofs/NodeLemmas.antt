-- Terms that aren't of the form that a part asks for.
use Rattle.std.proofs.Common.{◌≡◌, ℕ, [], Option, refl}
use Rattle.hol_terms.specs.TermStore.{TermStore, tree_of}
use Rattle.hol_terms.specs.declared.node.Node.{Node}
use Rattle.hol_terms.specs.declared.node.Node.TheVariants.{Free, Bound, Const, Num, App, Lam}
use Rattle.goal_text.specs.Names.{Constants}
use Rattle.goal_print.specs.TermText.{first_in, body_in}
use Rattle.goal_print.specs.declared.kind.Kind.{Kind}

-- what isn't an application has no first argument
pub no_first : (s : TermStore) (consts : Constants) (place : Option Kind) (depth : ℕ) (n : Node) → ((f x : ℕ) → n ≡ App f x → ⊥) → first_in consts place depth (tree_of s n) ≡ []
unfolding first_in
no_first s consts place depth (Free k n t) h = refl
no_first s consts place depth (Bound i t) h = refl
no_first s consts place depth (Const n t) h = refl
no_first s consts place depth (Num z) h = refl
no_first s consts place depth (App f x) h = absurd (h f x refl)
no_first s consts place depth (Lam t b) h = refl

-- what isn't a lambda has no body
pub no_body : (s : TermStore) (consts : Constants) (kind : Kind) (depth : ℕ) (n : Node) → ((t b : ℕ) → n ≡ Lam t b → ⊥) → body_in consts kind depth (tree_of s n) ≡ []
unfolding body_in
no_body s consts kind depth (Free k n t) h = refl
no_body s consts kind depth (Bound i t) h = refl
no_body s consts kind depth (Const n t) h = refl
no_body s consts kind depth (Num z) h = refl
no_body s consts kind depth (App f x) h = refl
no_body s consts kind depth (Lam t b) h = absurd (h t b refl)
