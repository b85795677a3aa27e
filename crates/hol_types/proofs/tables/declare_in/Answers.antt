use Rattle.std.proofs.Common.{◌≡◌, ◌∙◌, sym, ap, subst, Some, None}
use Rattle.hol_types.specs.TypeStore.{IsTypeStore, Grows, arity_of, joined, with_arity}
use Rattle.hol_types.proofs.TypeLemmas.{arity_of-right, arity_of-declared, arity_of-others, declared_joined, Grows-declared, IsTypeStore-declared, none_from_test}
use Rattle.hol_types.proofs.KeepsLemmas.{keeps_types_grown}
use Rattle.hol_types.proofs.tables.declare_in.Goals as goal

pub add_arity-requires : goal.add_arity-requires
add_arity-requires c = arity_of-right c.args.base.now c.args.own.now c.args.n (sym c.arity_in.ensures ∙ none_from_test c.arity_in.result (sym c.is_some.ensures ∙ c.if-is_some.false))

-- it wasn't declared
absent : (c : goal.In_ok-add_arity) → arity_of (joined c.args.base.now c.args.own.now) c.args.n ≡ None
absent c = sym c.arity_in.ensures ∙ none_from_test c.arity_in.result (sym c.is_some.ensures ∙ c.if-is_some.false)

-- and is declared now
stored : (c : goal.In_ok-add_arity) → joined c.args.base.now c.add_arity.new.own ≡ with_arity (joined c.args.base.now c.args.own.now) c.args.n c.args.arity
stored c = ap (λ s. joined c.args.base.now s) c.in_ok-add_arity.ensures.ok ∙ declared_joined c.args.base.now c.args.own.now c.args.n c.args.arity

pub returns-clause-stored : goal.returns-clause-stored
returns-clause-stored c = stored c

pub returns-clause-arity : goal.returns-clause-arity
returns-clause-arity c = λ _. subst (λ s. arity_of s c.args.n ≡ Some c.args.arity) (sym (stored c)) (arity_of-declared (joined c.args.base.now c.args.own.now) c.args.n c.args.arity (absent c))

pub returns-clause-others : goal.returns-clause-others
returns-clause-others c = λ m differ. ap (λ s. arity_of s m) (stored c) ∙ arity_of-others (joined c.args.base.now c.args.own.now) c.args.n c.args.arity m differ

pub returns-clause-lawful : goal.returns-clause-lawful
returns-clause-lawful c = subst (λ s. IsTypeStore s) (sym (stored c)) (IsTypeStore-declared _ c.requires c.args.n c.args.arity)

pub returns-clause-grows : goal.returns-clause-grows
returns-clause-grows c = subst (λ s. Grows (joined c.args.base.now c.args.own.now) s) (sym (stored c)) (Grows-declared _ c.args.n c.args.arity)

pub returns-clause-keeps : goal.returns-clause-keeps
returns-clause-keeps c = keeps_types_grown _ _ c.requires (returns-clause-grows c)
