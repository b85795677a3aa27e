-- What a term is written as in each place is read as the term.
use Rattle.std.proofs.Common.{◌≡◌, List, [], ◌∷◌, map, Some, Bool, true, false, if◌then◌else◌, refl, sym, subst}
use Rattle.std.proofs.lemmas.Option.{same_Some}
use Rattle.hol_types.specs.Ty.{Ty, BoolTy, IntTy, FunTy}
use Rattle.hol_types.proofs.TyEqLemmas.{ty_eq_refl}
use Rattle.hol_terms.specs.Term.{Term, ty_of}
use Rattle.hol_terms.specs.Constants.{add, conjunction, disjunction, mul}
use Rattle.goal_print.specs.declared.kind.Kind.{Kind}
use Rattle.goal_print.specs.declared.kind.Kind.TheVariants.{Leaf, Application, Conditional, NegatedZero, And, Or, Sum, Product, Forall, Exists, Lambda}
use Rattle.goal_text.specs.declared.word.Binder.TheVariants as binders
use Rattle.goal_text.specs.Names.{Constants, Constructors, Env}
use Rattle.goal_text.specs.Operations.{all_are, to_the_left, to_the_right}
use Rattle.goal_print.specs.Kinds.{goes_on}
use Rattle.goal_print.specs.Shapes.{Shape, Shapes, ListShape, no_shapes, more_shapes, one_shape}
use Rattle.goal_print.specs.TermShape.{Written, Whole, Listed, Chained, binders_in, body_in, chain_shape, in_list, list_shape, shape_of}
use Rattle.goal_print.specs.Under.{under_binders}
use Rattle.goal_print.proofs.KindLemmas.{is_other}
use Rattle.goal_print.proofs.PartReadLemmas.{ReadAll, Reads, all_one}
use Rattle.goal_print.proofs.ListReadLemmas.{IsChain, IsPlain, IsSpine, chain_alone, list_plain, spine_alone}

-- terms of the type in one list, that are joined to the term
pub record AreOperands (env : Env) (type : Ty) (join : Term → List Term → Term) (parts : Shapes) (t : Term) : Type 0 where
  pub first : Term
  pub more : List Term
  pub all : ReadAll env parts (first ∷ more)
  pub typed : all_are type (map ty_of (first ∷ more)) ≡ true
  pub is : join first more ≡ t

operand_alone : {env : Env} {s : Shape} {t : Term} (type : Ty) (join : Term → List Term → Term) → Reads env s t → ty_of t ≡ type → join t [] ≡ t → AreOperands env type join (one_shape s) t
operand_alone {t = t} type join one typed is = record { first = t; more = []; all = all_one one; typed = rw (typed, ty_eq_refl type) refl; is = is }

-- ---- places

kind_plain : (env : Env) (kind : Kind) (parts : Shapes) → IsPlain env (list_shape kind parts)
kind_plain env Leaf parts = list_plain env _
kind_plain env Application parts = list_plain env _
kind_plain env Conditional parts = list_plain env _
kind_plain env NegatedZero parts = list_plain env _
kind_plain env And parts = list_plain env _
kind_plain env Or parts = list_plain env _
kind_plain env Sum parts = list_plain env _
kind_plain env Product parts = list_plain env _
kind_plain env Forall parts = list_plain env _
kind_plain env Exists parts = list_plain env _
kind_plain env Lambda parts = list_plain env _

module _ (types : Constructors) (consts : Constants) where
  -- in a list of the kind the parts, the binders and the body stand for the term
  abbrev pub Stands : List Ty → Kind → Shapes → Shapes → Shape → Term → Type 0
  Stands bs Leaf parts entries inner t = Unit {0}
  Stands bs Application parts entries inner t = (a b : Ty) → ty_of t ≡ FunTy a b → IsSpine (under_binders types consts bs) parts t
  Stands bs Conditional parts entries inner t = Unit {0}
  Stands bs NegatedZero parts entries inner t = Unit {0}
  Stands bs And parts entries inner t = ty_of t ≡ BoolTy → AreOperands (under_binders types consts bs) BoolTy (to_the_right conjunction) parts t
  Stands bs Or parts entries inner t = ty_of t ≡ BoolTy → AreOperands (under_binders types consts bs) BoolTy (to_the_right disjunction) parts t
  Stands bs Sum parts entries inner t = ty_of t ≡ IntTy → AreOperands (under_binders types consts bs) IntTy (to_the_left add) parts t
  Stands bs Product parts entries inner t = ty_of t ≡ IntTy → AreOperands (under_binders types consts bs) IntTy (to_the_left mul) parts t
  Stands bs Forall parts entries inner t = ty_of t ≡ BoolTy → IsChain types consts bs binders.Forall entries inner t
  Stands bs Exists parts entries inner t = ty_of t ≡ BoolTy → IsChain types consts bs binders.Exists entries inner t
  Stands bs Lambda parts entries inner t = IsChain types consts bs binders.Lambda entries inner t

  -- what the term is written as is read as the term, by itself and in each list
  pub record IsWritten (bs : List Ty) (w : Written) (t : Term) : Type 0 where
    pub alone : Reads (under_binders types consts bs) (shape_of w) t
    pub stands : (place : Kind) → Stands bs place (in_list place w) (binders_in place w) (body_in place w) t

  module _ (bs : List Ty) where
    alone_stands : {s : Shape} {t : Term} (place : Kind) → Reads (under_binders types consts bs) s t → ((a b : Ty) → ty_of t ≡ FunTy a b → IsPlain (under_binders types consts bs) s)
        → Stands bs place (one_shape s) no_shapes s t
    alone_stands Leaf one plain = tt
    alone_stands Application one plain = λ a b e. spine_alone one (plain a b e)
    alone_stands Conditional one plain = tt
    alone_stands NegatedZero one plain = tt
    alone_stands And one plain = λ e. operand_alone BoolTy (to_the_right conjunction) one e refl
    alone_stands Or one plain = λ e. operand_alone BoolTy (to_the_right disjunction) one e refl
    alone_stands Sum one plain = λ e. operand_alone IntTy (to_the_left add) one e refl
    alone_stands Product one plain = λ e. operand_alone IntTy (to_the_left mul) one e refl
    alone_stands Forall one plain = λ e. chain_alone types consts binders.Forall one (rw e (ty_eq_refl BoolTy))
    alone_stands Exists one plain = λ e. chain_alone types consts binders.Exists one (rw e (ty_eq_refl BoolTy))
    alone_stands Lambda one plain = chain_alone types consts binders.Lambda one refl

    pub whole_written : {s : Shape} {t : Term} → Reads (under_binders types consts bs) s t → ((a b : Ty) → ty_of t ≡ FunTy a b → IsPlain (under_binders types consts bs) s) → IsWritten bs (Whole s) t
    whole_written one plain = record { alone = one; stands = λ place. alone_stands place one plain }

    pub listed_written : {t : Term} (kind : Kind) (parts : Shapes) → Reads (under_binders types consts bs) (list_shape kind parts) t → Stands bs kind parts no_shapes (list_shape kind parts) t → IsWritten bs (Listed kind parts) t
    listed_written {t = t} kind parts one here = record { alone = one; stands = λ place. by place (goes_on (Some place) kind) refl }
      where
        by : (place : Kind) (b : Bool) → goes_on (Some place) kind ≡ b → Stands bs place (if b then parts else one_shape (list_shape kind parts)) no_shapes (list_shape kind parts) t
        by place false e = alone_stands place one (λ a b f. kind_plain (under_binders types consts bs) kind parts)
        by place true e = subst (λ (k : Kind). Stands bs k parts no_shapes (list_shape kind parts) t) (sym (same_Some place kind (is_other (Some place) kind e))) here

    pub chained_written : {t : Term} (kind : Kind) (entries : Shapes) (inner : Shape) → Reads (under_binders types consts bs) (chain_shape kind entries inner) t → Stands bs kind (one_shape (chain_shape kind entries inner)) entries inner t
        → IsWritten bs (Chained kind entries inner) t
    chained_written {t = t} kind entries inner one here = record { alone = one; stands = λ place. by place (goes_on (Some place) kind) refl }
      where
        by : (place : Kind) (b : Bool) → goes_on (Some place) kind ≡ b → Stands bs place (one_shape (chain_shape kind entries inner)) (if b then entries else no_shapes) (if b then inner else chain_shape kind entries inner) t
        by place false e = alone_stands place one (λ a b f. kind_plain (under_binders types consts bs) kind (more_shapes (ListShape entries) (one_shape inner)))
        by place true e = subst (λ (k : Kind). Stands bs k (one_shape (chain_shape kind entries inner)) entries inner t) (sym (same_Some place kind (is_other (Some place) kind e))) here
