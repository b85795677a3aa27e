-- Instances by generalisation.
use Rattle.std.proofs.Common.{◌≡◌, ◌∙◌, ◌++◌, ◌∷◌, ◌<◌, ◌≤◌, ◌+◌, [], refl, sym, subst, ap, ap₂, ℕ, zero, suc, List, length, take, drop, get_or, drop-cons, cond, Bool as Truth, true, false, Some, unwrap_or, arith, eq-eqb, add-one}
use Rattle.std.specs.Prelude.{slice_get}
use Rattle.std.specs.Map.{lookup}
use Rattle.std.specs.List.{AllByRecursion}
use Rattle.std.proofs.lemmas.List.{take_more}
use Rattle.std.proofs.lemmas.List.Sums.{fold-append}
use Rattle.hol_types.specs.Ty.{Ty}
use Rattle.hol_terms.specs.Term.{Term, FreeTm, BoundTm, ConstTm, NumTm, AppTm, LamTm, ty_of}
use Rattle.hol_terms.specs.TermEq.{term_eq}
use Rattle.hol_terms.specs.TermStore.{TermStore, HasTerm, term_tree}
use Rattle.hol_terms.specs.Substitution.{LooseBelow, IsClosed, IsFreeVariable, subst_bound, close_free}
use Rattle.hol_terms.specs.Formula.{NotFreeInAny}
use Rattle.hol_terms.specs.Constants.{true_tm, for_all}
use Rattle.hol_terms.specs.declared.node.FreeKind.{FreeKind}
use Rattle.hol_terms.specs.declared.node.FreeKind.TheVariants.{Open, Symbol, Lifted, Schematic}
use Rattle.hol_terms.proofs.TermEqLemmas.{term_eq_sound}
use Rattle.hol_terms.proofs.SubstitutionLemmas.{opened_same, loose_more, closed_loose}
use Rattle.hol_match.specs.Instance.{IsSchematic, Substitutable, IsInstantiation, instance_by}
use Rattle.hol_match.specs.Inst.{Pairs, inst_tree, term_for}
use Rattle.lcf_kernel.specs.KernelState.{KernelState, HasThm, concl_of, hyps_of, all_hyps_of, bare_of, KeepsAll}
use Rattle.lcf_kernel.specs.RuleForms.{IsGeneral}
use Rattle.lcf_kernel.proofs.KeepLemmas.{keeps_all_trans, keeps_all_same}
use Rattle.hol_terms.proofs.SetLemmas.{same_refl}
use Rattle.hol_logic.specs.States.{States}
use Rattle.hol_logic.specs.DerivedForms.{all_of}
use Rattle.hol_logic.specs.Instances.{AreGeneral, generalised, pair_at, IsAllAt}
use Rattle.hol_logic.proofs.EquationLemmas.{general_same, general_after, states_through}

-- ---- instances of a body

pub instance_nothing : (x : Term) → instance_by (λ v. term_for [] v) x ≡ x
instance_nothing (FreeTm Schematic n w) = refl
instance_nothing (FreeTm Open n w) = refl
instance_nothing (FreeTm Symbol n w) = refl
instance_nothing (FreeTm Lifted n w) = refl
instance_nothing (BoundTm j w) = refl
instance_nothing (ConstTm n w) = refl
instance_nothing (NumTm z) = refl
instance_nothing (AppTm f x) = ap₂ AppTm (instance_nothing f) (instance_nothing x)
instance_nothing (LamTm w b) = ap (LamTm w) (instance_nothing b)

module _ (v t : Term) (qs : Pairs) (is : IsSchematic v) (closed : IsClosed t) (lawful : IsInstantiation (term_for qs)) where
  -- a variable of another kind
  other : (k : FreeKind) (n : List ℕ) (w : Ty) (i : ℕ) → (k ≡ Schematic → ⊥) → instance_by (term_for qs) (FreeTm k n w) ≡ FreeTm k n w
      → subst_bound (instance_by (term_for qs) (close_free (FreeTm k n w) i v)) i t ≡ FreeTm k n w
  other k n w i apart same = by (term_eq (FreeTm k n w) v) refl
    where
      by : (b : Truth) → term_eq (FreeTm k n w) v ≡ b → subst_bound (instance_by (term_for qs) (cond b (BoundTm i w) (FreeTm k n w))) i t ≡ FreeTm k n w
      by true e = absurd (apart (subst (λ u. IsSchematic u) (sym (term_eq_sound (FreeTm k n w) v e)) is))
      by false e = rw same refl

  -- the term for the Bound that stands for a variable is the term for the variable
  pub instance_opened : (x : Term) (i : ℕ) → LooseBelow x i → subst_bound (instance_by (term_for qs) (close_free x i v)) i t ≡ instance_by (term_for ((v, t) ∷ qs)) x
  instance_opened (FreeTm Schematic n w) i h = by (term_eq (FreeTm Schematic n w) v)
    where
      x : Term
      x = FreeTm Schematic n w

      by : (b : Truth) → subst_bound (instance_by (term_for qs) (cond b (BoundTm i w) (FreeTm Schematic n w))) i t ≡ unwrap_or (cond b (Some t) (lookup (term_eq (FreeTm Schematic n w)) qs)) (FreeTm Schematic n w)
      by true = rw (eq-eqb i i refl) refl
      by false = opened_same (term_for qs (FreeTm Schematic n w)) t i (loose_more (term_for qs (FreeTm Schematic n w)) 0 i (lawful.each (FreeTm Schematic n w) refl).closed (omega arith))
  instance_opened (FreeTm Open n w) i h = other Open n w i (λ e. cc) refl
  instance_opened (FreeTm Symbol n w) i h = other Symbol n w i (λ e. cc) refl
  instance_opened (FreeTm Lifted n w) i h = other Lifted n w i (λ e. cc) refl
  instance_opened (BoundTm j w) i h = opened_same (BoundTm j w) t i h
  instance_opened (ConstTm n w) i h = refl
  instance_opened (NumTm z) i h = refl
  instance_opened (AppTm f x) i h = ap₂ AppTm (instance_opened f i h.0) (instance_opened x i h.1)
  instance_opened (LamTm w b) i h = ap (LamTm w) (instance_opened b (i + 1) h)

-- ---- lists of pairs

all_push : {A : Type 0} (P : A → Type 0) (xs : List A) (x : A) → AllByRecursion P xs → P x → AllByRecursion P (xs ++ x ∷ [])
all_push P [] x h p = (p, tt)
all_push P (y ∷ ys) x h p = (h.0, all_push P ys x h.1 p)

all_drop : {A : Type 0} (P : A → Type 0) (xs : List A) (n : ℕ) → AllByRecursion P xs → AllByRecursion P (drop n xs)
all_drop P [] zero h = h
all_drop P [] (suc n) h = h
all_drop P (x ∷ xs) zero h = h
all_drop P (x ∷ xs) (suc n) h = all_drop P xs n h.1

all_at : {A : Type 0} (P : A → Type 0) (xs : List A) (i : ℕ) (d : A) → i < length xs → AllByRecursion P xs → P (get_or xs i d)
all_at P [] i d below h = absurd (omega arith)
all_at P (x ∷ xs) zero d below h = h.0
all_at P (x ∷ xs) (suc i) d below h = all_at P xs i d (omega arith) h.1

take_over : (ps : Pairs) (i : ℕ) → length ps ≤ i → take i ps ≡ ps
take_over [] zero h = refl
take_over [] (suc i) h = refl
take_over (p ∷ ps) zero h = absurd (omega arith)
take_over (p ∷ ps) (suc i) h = ap (λ qs. p ∷ qs) (take_over ps i (omega arith))

take_past : (ps : Pairs) → take (length ps) ps ≡ ps
take_past ps = take_over ps (length ps) (omega arith)

drop_past : (ps : Pairs) → drop (length ps) ps ≡ []
drop_past [] = refl
drop_past (p ∷ ps) = drop_past ps

pub generalised_more : (ps : Pairs) (f : Term) (i : ℕ) → i < length ps → generalised (take (i + 1) ps) f ≡ all_of (pair_at ps i).0 (generalised (take i ps) f)
generalised_more ps f i below = ap (λ xs. generalised xs f) (take_more ps i (true_tm, true_tm) below) ∙ fold-append (λ g q. all_of q.0 g) f (take i ps) (pair_at ps i ∷ [])

pub generalised_closed : (ps : Pairs) (f : Term) → IsClosed f → IsClosed (generalised ps f)
generalised_closed [] f h = h
generalised_closed (p ∷ ps) f h = generalised_closed ps (all_of p.0 f) (tt, closed_loose f 0 p.0 h)

-- ---- what an Inst holds

pub pair_found : (s : TermStore) (qs : List (ℕ × ℕ)) (i : ℕ) (q : ℕ × ℕ) → slice_get qs i ≡ Some q → pair_at (inst_tree s s qs) i ≡ (term_tree s q.0, term_tree s q.1)
pair_found s [] i q h = absurd (cc)
pair_found s (p ∷ ps) zero q h = let e : p ≡ q = cc in rw e refl
pair_found s (p ∷ ps) (suc i) q h = pair_found s ps i q h

pub pair_there : (s : TermStore) (qs : List (ℕ × ℕ)) (i : ℕ) (q : ℕ × ℕ) → slice_get qs i ≡ Some q → AllByRecursion (λ p. HasTerm s p.0 × HasTerm s p.1) qs → HasTerm s q.0 × HasTerm s q.1
pair_there s [] i q h all = absurd (cc)
pair_there s (p ∷ ps) zero q h all = let e : p ≡ q = cc in subst (λ r. HasTerm s r.0 × HasTerm s r.1) e all.0
pair_there s (p ∷ ps) (suc i) q h all = pair_there s ps i q h all.1

pub pair_stands : (s : TermStore) (qs : List (ℕ × ℕ)) (i : ℕ) (q : ℕ × ℕ) → slice_get qs i ≡ Some q → AllByRecursion (λ p. Substitutable (term_tree s p.0) (term_tree s p.1)) qs → Substitutable (term_tree s q.0) (term_tree s q.1)
pair_stands s [] i q h all = absurd (cc)
pair_stands s (p ∷ ps) zero q h all = let e : p ≡ q = cc in subst (λ (r : ℕ × ℕ). Substitutable (term_tree s r.0) (term_tree s r.1)) e all.0
pair_stands s (p ∷ ps) (suc i) q h all = pair_stands s ps i q h all.1

pub pairs_long : (s : TermStore) (qs : List (ℕ × ℕ)) → length (inst_tree s s qs) ≡ length qs
pairs_long s [] = refl
pairs_long s (q ∷ qs) = ap suc (pairs_long s qs)

pub pairs_stand : (s : TermStore) (qs : List (ℕ × ℕ)) → AllByRecursion (λ q. Substitutable (term_tree s q.0) (term_tree s q.1)) qs → AllByRecursion (λ q. Substitutable q.0 q.1) (inst_tree s s qs)
pairs_stand s [] h = tt
pairs_stand s (q ∷ qs) h = (h.0, pairs_stand s qs h.1)

pub schematic_free : (v : Term) → IsSchematic v → IsFreeVariable v
schematic_free (FreeTm k n t) h = tt
schematic_free (BoundTm i t) h = h
schematic_free (ConstTm n t) h = h
schematic_free (NumTm z) h = h
schematic_free (AppTm f x) h = h
schematic_free (LamTm t b) h = h

itself_stands : (v : Term) → IsSchematic v → Substitutable v v
itself_stands (FreeTm k n t) h = record { schematic = h; type = refl; closed = tt }
itself_stands (BoundTm i t) h = absurd h
itself_stands (ConstTm n t) h = absurd h
itself_stands (NumTm z) h = absurd h
itself_stands (AppTm f x) h = absurd h
itself_stands (LamTm t b) h = absurd h

terms_stand : (ps : Pairs) → AllByRecursion (λ q. Substitutable q.0 q.1) ps → (v : Term) → IsSchematic v → Substitutable v (term_for ps v)
terms_stand [] h v is = itself_stands v is
terms_stand (p ∷ ps) h v is = by (term_eq v p.0) refl (terms_stand ps h.1 v is)
  where
    by : (b : Truth) → term_eq v p.0 ≡ b → Substitutable v (term_for ps v) → Substitutable v (unwrap_or (cond b (Some p.1) (lookup (term_eq v) ps)) v)
    by true e rest = subst (λ u. Substitutable u p.1) (sym (term_eq_sound v p.0 e)) h.0
    by false e rest = rest

pub stands_instantiates : (ps : Pairs) → AllByRecursion (λ q. Substitutable q.0 q.1) ps → IsInstantiation (term_for ps)
stands_instantiates ps h = record { each = terms_stand ps h }

-- ---- generalising, a pair at a time

pub record IsGeneralised (old new : KernelState) (pairs : Pairs) (a r i : ℕ) : Type 0 where
  pub keeps : KeepsAll old new
  pub states : States new r (generalised (take i pairs) (concl_of old a)) (hyps_of old a) (bare_of old a)
  pub general : AreGeneral (all_hyps_of old a) (take i pairs)

module _ (old mid new : KernelState) (pairs : Pairs) (a r i : ℕ) (so_far : IsGeneralised old mid pairs a r i) (below : i < length pairs) where
  v : Term
  v = (pair_at pairs i).0

  pub generalised_next : (w : ℕ) → KeepsAll mid new → States new w (all_of (pair_at pairs i).0 (concl_of mid r)) (hyps_of mid r) (bare_of mid r) → IsGeneral (all_hyps_of mid r) (pair_at pairs i).0
      → IsGeneralised old new pairs a w (i + 1)
  generalised_next w keeps s general =
      let through = states_through so_far.states s in
      let absent = (general_same old mid a r (pair_at pairs i).0 so_far.keeps.records.context_trees so_far.states.hyps general).absent in
      record {
        keeps = keeps_all_trans so_far.keeps keeps;
        states = record {
          there = through.there;
          concl = through.concl ∙ ap (λ f. all_of (pair_at pairs i).0 f) so_far.states.concl ∙ sym (generalised_more pairs (concl_of old a) i below);
          hyps = through.hyps;
          bare = through.bare;
        };
        general = rw (take_more pairs i (true_tm, true_tm) below) (all_push (λ q. NotFreeInAny q.0 (all_hyps_of old a)) (take i pairs) (pair_at pairs i) so_far.general absent);
      }

  -- where all are general, the next is
  pub next_general : AllByRecursion (λ q. Substitutable q.0 q.1) pairs → AreGeneral (all_hyps_of old a) pairs → IsGeneral (all_hyps_of mid r) (pair_at pairs i).0
  next_general stand all =
      let variable = schematic_free (pair_at pairs i).0 (all_at (λ q. Substitutable q.0 q.1) pairs i (true_tm, true_tm) below stand).schematic in
      general_after old mid a r (pair_at pairs i).0 so_far.keeps.records.context_trees so_far.states.hyps (record { variable = variable; absent = all_at (λ q. NotFreeInAny q.0 (all_hyps_of old a)) pairs i (true_tm, true_tm) below all })

-- ---- terms for the variables, a pair at a time from the last

pub record IsInstantiated (old new : KernelState) (pairs : Pairs) (f : Term) (a r i : ℕ) : Type 0 where
  pub within : i ≤ length pairs
  pub keeps : KeepsAll old new
  pub states : States new r (instance_by (term_for (drop i pairs)) (generalised (take i pairs) f)) (hyps_of old a) (bare_of old a)

module _ (old mid new : KernelState) (pairs : Pairs) (f : Term) (a r i : ℕ) (so_far : IsInstantiated old mid pairs f a r (i + 1)) (closed : IsClosed f) (stand : AllByRecursion (λ q. Substitutable q.0 q.1) pairs) where
  abbrev body : Term
  body = instance_by (term_for (drop (i + 1) pairs)) (close_free (generalised (take i pairs) f) 0 (pair_at pairs i).0)

  said : concl_of mid r ≡ for_all (ty_of (pair_at pairs i).0) (LamTm (ty_of (pair_at pairs i).0) body)
  said = so_far.states.concl ∙ ap (λ g. instance_by (term_for (drop (i + 1) pairs)) g) (generalised_more pairs f i (omega (arith, so_far.within)))

  pub next_all : IsAllAt pairs i (concl_of mid r)
  next_all = record { body = body; is = said }

  pub instantiated_next : (w : ℕ) → KeepsAll mid new → (b : IsAllAt pairs i (concl_of mid r)) → States new w (subst_bound b.body 0 (pair_at pairs i).1) (hyps_of mid r) (bare_of mid r) → IsInstantiated old new pairs f a w i
  instantiated_next w keeps b s =
      let below : i < length pairs = omega (arith, so_far.within) in
      let through = states_through so_far.states s in
      let pair = all_at (λ q. Substitutable q.0 q.1) pairs i (true_tm, true_tm) below stand in
      let rest = stands_instantiates (drop (i + 1) pairs) (all_drop (λ q. Substitutable q.0 q.1) pairs (i + 1) stand) in
      let is = b.is in
      let known = said in
      let same : b.body ≡ body = cc in
      let opened = instance_opened (pair_at pairs i).0 (pair_at pairs i).1 (drop (i + 1) pairs) pair.schematic pair.closed rest (generalised (take i pairs) f) 0 (generalised_closed (take i pairs) f closed) in
      let list : (pair_at pairs i) ∷ drop (i + 1) pairs ≡ drop i pairs = rw add-one (sym (drop-cons pairs i (true_tm, true_tm) below)) in
      record {
        within = omega arith;
        keeps = keeps_all_trans so_far.keeps keeps;
        states = record {
          there = through.there;
          concl = through.concl ∙ ap (λ x. subst_bound x 0 (pair_at pairs i).1) same ∙ opened ∙ ap (λ ps. instance_by (term_for ps) (generalised (take i pairs) f)) list;
          hyps = through.hyps;
          bare = through.bare;
        };
      }

pub instantiated_start : (old : KernelState) (pairs : Pairs) (f : Term) (a n : ℕ) → n ≡ length pairs → HasThm old a → concl_of old a ≡ generalised pairs f → IsInstantiated old old pairs f a a n
instantiated_start old pairs f a n e has said =
    let none : drop n pairs ≡ [] = rw e (drop_past pairs) in
    let all : take n pairs ≡ pairs = rw e (take_past pairs) in
    record {
      within = omega arith;
      keeps = keeps_all_same old;
      states = record {
        there = has;
        concl = said ∙ sym (instance_nothing (generalised pairs f)) ∙ rw (none, all) refl;
        hyps = same_refl (hyps_of old a);
        bare = refl;
      };
    }

pub generalised_start : (old : KernelState) (pairs : Pairs) (a : ℕ) → HasThm old a → IsGeneralised old old pairs a a 0
generalised_start old pairs a has = record { keeps = keeps_all_same old; states = record { there = has; concl = refl; hyps = same_refl (hyps_of old a); bare = refl }; general = tt }

pub generalised_end : (old new : KernelState) (pairs : Pairs) (a r i : ℕ) → IsGeneralised old new pairs a r i → length pairs ≤ i
    → States new r (generalised pairs (concl_of old a)) (hyps_of old a) (bare_of old a) × AreGeneral (all_hyps_of old a) pairs
generalised_end old new pairs a r i g h =
    let all : take i pairs ≡ pairs = take_over pairs i h in
    (rw all at g.states, rw all at g.general)

pub instantiated_end : (old new : KernelState) (pairs : Pairs) (f : Term) (a r i : ℕ) → IsInstantiated old new pairs f a r i → i ≤ 0 → States new r (instance_by (term_for pairs) f) (hyps_of old a) (bare_of old a)
instantiated_end old new pairs f a r zero g h = g.states
instantiated_end old new pairs f a r (suc i) g h = absurd (omega arith)
