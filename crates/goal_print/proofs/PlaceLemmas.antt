-- The text of a term in its place.
use Rattle.std.proofs.Common.{◌≡◌, ℕ, List, [], ◌++◌, Bool, true, false, Option, Some, None, codes, refl, ap, sym, subst, ◌∙◌, append_assoc, if◌then◌else◌}
use Rattle.std.proofs.lemmas.List.{append-nil}
use Rattle.std.proofs.lemmas.Option.{same_Some}
use Rattle.goal_print.specs.Shapes.{Shape, Shapes, no_shapes, more_shapes, joined, one_shape, shape_text, shapes_text, behind_text}
use Rattle.goal_print.specs.Kinds.{goes_on, before_part, between, opening, closing, lead, open_list, close_list}
use Rattle.goal_print.specs.TermShape.{Written, Whole, Listed, Chained, list_shape, chain_shape, shape_of, in_list, binders_in, body_in}
use Rattle.goal_print.specs.declared.kind.Kind.{Kind}
use Rattle.goal_print.specs.declared.kind.Kind.TheVariants.{Leaf, Application, Conditional, NegatedZero, And, Or, Sum, Product, Forall, Exists, Lambda}
use Rattle.goal_print.proofs.KindLemmas.{is_other}

-- ---- kinds

-- a list of the kind has parts
abbrev pub HasParts : Kind → Type 0
HasParts Leaf = ⊥
HasParts Application = Unit {0}
HasParts Conditional = Unit {0}
HasParts NegatedZero = Unit {0}
HasParts And = Unit {0}
HasParts Or = Unit {0}
HasParts Sum = Unit {0}
HasParts Product = Unit {0}
HasParts Forall = ⊥
HasParts Exists = ⊥
HasParts Lambda = ⊥

-- a list of the kind has binders and a body
abbrev pub HasBinders : Kind → Type 0
HasBinders Leaf = ⊥
HasBinders Application = ⊥
HasBinders Conditional = ⊥
HasBinders NegatedZero = ⊥
HasBinders And = ⊥
HasBinders Or = ⊥
HasBinders Sum = ⊥
HasBinders Product = ⊥
HasBinders Forall = Unit {0}
HasBinders Exists = Unit {0}
HasBinders Lambda = Unit {0}

-- a list of the kind goes on with a part
abbrev pub GoesOn : Kind → Type 0
GoesOn Leaf = ⊥
GoesOn Application = Unit {0}
GoesOn Conditional = ⊥
GoesOn NegatedZero = ⊥
GoesOn And = Unit {0}
GoesOn Or = Unit {0}
GoesOn Sum = Unit {0}
GoesOn Product = Unit {0}
GoesOn Forall = ⊥
GoesOn Exists = ⊥
GoesOn Lambda = ⊥

-- ---- what is written of a term

-- there is a shape
abbrev pub AreSome : Shapes → Type 0
AreSome no_shapes = ⊥
AreSome (more_shapes first rest) = Unit {0}

-- a list is of a kind that has such parts, and isn't empty
abbrev pub IsProper : Written → Type 0
IsProper (Whole shape) = Unit {0}
IsProper (Listed kind parts) = HasParts kind × AreSome parts
IsProper (Chained kind binders body) = HasBinders kind × AreSome binders

-- the kind of its list
abbrev pub kind_in : Written → Kind
kind_in (Whole shape) = Leaf
kind_in (Listed kind parts) = kind
kind_in (Chained kind binders body) = kind

-- parts, with what stands before the first
abbrev pub parts_in : Kind → Shapes → List ℕ
parts_in Leaf parts = shapes_text parts
parts_in Application parts = shapes_text parts
parts_in Conditional parts = shapes_text parts
parts_in NegatedZero parts = shapes_text parts
parts_in And parts = behind_text parts
parts_in Or parts = behind_text parts
parts_in Sum parts = behind_text parts
parts_in Product parts = behind_text parts
parts_in Forall parts = shapes_text parts
parts_in Exists parts = shapes_text parts
parts_in Lambda parts = shapes_text parts

-- what stands between the opening and the closing
abbrev pub inner_text : Written → List ℕ
inner_text (Whole shape) = shape_text shape
inner_text (Listed kind parts) = parts_in kind parts
inner_text (Chained kind binders body) = shapes_text binders ++ codes ") " ++ shape_text body

-- what leads to it, opens and closes its list
abbrev pub placed : Option Kind → Written → List ℕ
placed place w = lead place (kind_in w) ++ open_list place (kind_in w) ++ inner_text w ++ close_list place (kind_in w)

-- ---- by itself

chain_closes : (binders body : List ℕ) → binders ++ codes ") " ++ body ++ codes ")" ≡ binders ++ codes ")" ++ (codes " " ++ body ++ []) ++ codes ")"
chain_closes binders body =
    ap (λ text. text ++ codes ")") (append_assoc binders (codes ") ") body
    ∙ (ap (λ text. binders ++ (codes ") " ++ text)) (sym (append-nil body)) ∙ sym (append_assoc binders (codes ")") (codes " " ++ body ++ []))))

whole_list : (w : Written) → IsProper w → opening (kind_in w) ++ inner_text w ++ closing (kind_in w) ≡ shape_text (shape_of w)
unfolding shape_text shapes_text behind_text
whole_list (Whole shape) is = append-nil (shape_text shape)
whole_list (Listed Leaf parts) is = absurd is.0
whole_list (Listed Application parts) is = refl
whole_list (Listed Conditional parts) is = refl
whole_list (Listed NegatedZero parts) is = simp append_assoc refl
whole_list (Listed And parts) is = refl
whole_list (Listed Or parts) is = refl
whole_list (Listed Sum parts) is = refl
whole_list (Listed Product parts) is = refl
whole_list (Listed Forall parts) is = absurd is.0
whole_list (Listed Exists parts) is = absurd is.0
whole_list (Listed Lambda parts) is = absurd is.0
whole_list (Chained Leaf binders body) is = absurd is.0
whole_list (Chained Application binders body) is = absurd is.0
whole_list (Chained Conditional binders body) is = absurd is.0
whole_list (Chained NegatedZero binders body) is = absurd is.0
whole_list (Chained And binders body) is = absurd is.0
whole_list (Chained Or binders body) is = absurd is.0
whole_list (Chained Sum binders body) is = absurd is.0
whole_list (Chained Product binders body) is = absurd is.0
whole_list (Chained Forall binders body) is = ap (λ text. codes "(forall (" ++ text) (chain_closes (shapes_text binders) (shape_text body))
whole_list (Chained Exists binders body) is = ap (λ text. codes "(exists (" ++ text) (chain_closes (shapes_text binders) (shape_text body))
whole_list (Chained Lambda binders body) is = ap (λ text. codes "(lambda (" ++ text) (chain_closes (shapes_text binders) (shape_text body))

pub alone : (w : Written) → IsProper w → placed None w ≡ shape_text (shape_of w)
unfolding lead open_list close_list
alone w is = whole_list w is

-- ---- in a list

placed_by : (on : Bool) (between before opens text closes : List ℕ)
    → (if on then between else before) ++ (if on then [] else opens) ++ text ++ (if on then [] else closes) ≡ (if on then between ++ text else before ++ (opens ++ text ++ closes))
placed_by true between before opens text closes = append-nil (between ++ [] ++ text) ∙ ap (λ front. front ++ text) (append-nil between)
placed_by false between before opens text closes = simp append_assoc refl

-- where it goes on with the list, and where it doesn't
placed_in : (place : Kind) (w : Written) → IsProper w
    → placed (Some place) w ≡ (if goes_on (Some place) (kind_in w) then between (kind_in w) ++ inner_text w else before_part place ++ shape_text (shape_of w))
unfolding lead open_list close_list
placed_in place w is =
    placed_by (goes_on (Some place) (kind_in w)) (between (kind_in w)) (before_part place) (opening (kind_in w)) (inner_text w) (closing (kind_in w))
    ∙ ap (λ text. if goes_on (Some place) (kind_in w) then between (kind_in w) ++ inner_text w else before_part place ++ text) (whole_list w is)

same_kind : (place kind : Kind) → goes_on (Some place) kind ≡ true → place ≡ kind
same_kind place kind on = same_Some place kind (is_other (Some place) kind on)

-- ---- in a list with parts

one_part : (place : Kind) (s : Shape) → GoesOn place → before_part place ++ shape_text s ≡ parts_in place (one_shape s)
unfolding shapes_text behind_text
one_part Leaf s is = absurd is
one_part Application s is = sym (append-nil (shape_text s))
one_part Conditional s is = absurd is
one_part NegatedZero s is = absurd is
one_part And s is = sym (append-nil (codes " " ++ shape_text s))
one_part Or s is = sym (append-nil (codes " " ++ shape_text s))
one_part Sum s is = sym (append-nil (codes " " ++ shape_text s))
one_part Product s is = sym (append-nil (codes " " ++ shape_text s))
one_part Forall s is = absurd is
one_part Exists s is = absurd is
one_part Lambda s is = absurd is

more_parts : (place : Kind) (parts : Shapes) → GoesOn place → between place ++ parts_in place parts ≡ parts_in place parts
more_parts Leaf parts is = absurd is
more_parts Application parts is = refl
more_parts Conditional parts is = absurd is
more_parts NegatedZero parts is = absurd is
more_parts And parts is = refl
more_parts Or parts is = refl
more_parts Sum parts is = refl
more_parts Product parts is = refl
more_parts Forall parts is = absurd is
more_parts Exists parts is = absurd is
more_parts Lambda parts is = absurd is

apart : (place kind : Kind) → GoesOn place → HasBinders kind → (on : Bool) → goes_on (Some place) kind ≡ on → goes_on (Some place) kind ≡ false
apart place kind is binds false on = on
apart place kind is binds true on = absurd (never kind (subst GoesOn (same_kind place kind on) is) binds)
  where
    never : (kind : Kind) → GoesOn kind → HasBinders kind → ⊥
    never Leaf is binds = is
    never Application is binds = binds
    never Conditional is binds = binds
    never NegatedZero is binds = binds
    never And is binds = binds
    never Or is binds = binds
    never Sum is binds = binds
    never Product is binds = binds
    never Forall is binds = is
    never Exists is binds = is
    never Lambda is binds = is

leaf_apart : (place : Kind) → GoesOn place → goes_on (Some place) Leaf ≡ false
leaf_apart Leaf is = absurd is
leaf_apart Application is = refl
leaf_apart Conditional is = absurd is
leaf_apart NegatedZero is = absurd is
leaf_apart And is = refl
leaf_apart Or is = refl
leaf_apart Sum is = refl
leaf_apart Product is = refl
leaf_apart Forall is = absurd is
leaf_apart Exists is = absurd is
leaf_apart Lambda is = absurd is

listed_by : (place kind : Kind) (parts : Shapes) → GoesOn place → (on : Bool) → goes_on (Some place) kind ≡ on
    → (if on then between kind ++ parts_in kind parts else before_part place ++ shape_text (list_shape kind parts)) ≡ parts_in place (if on then parts else one_shape (list_shape kind parts))
listed_by place kind parts is false on = one_part place (list_shape kind parts) is
listed_by place kind parts is true on =
    subst (λ (k : Kind). between k ++ parts_in k parts ≡ parts_in place parts) (same_kind place kind on) (more_parts place parts is)

-- A term in a list with parts is the parts that it is there.
pub in_parts : (place : Kind) (w : Written) → GoesOn place → IsProper w → placed (Some place) w ≡ parts_in place (in_list place w)
in_parts place (Whole shape) goes is = placed_in place (Whole shape) is ∙ rw (leaf_apart place goes) (one_part place shape goes)
in_parts place (Listed kind parts) goes is = placed_in place (Listed kind parts) is ∙ listed_by place kind parts goes (goes_on (Some place) kind) refl
in_parts place (Chained kind binders body) goes is =
    placed_in place (Chained kind binders body) is ∙ rw (apart place kind goes is.0 (goes_on (Some place) kind) refl) (one_part place (chain_shape kind binders body) goes)

-- ---- behind binders

-- the binders that follow, and the body
abbrev pub chain_text : Shapes → Shape → List ℕ
chain_text binders body = behind_text binders ++ codes ") " ++ shape_text body

before_body : (place : Kind) (s : Shape) → HasBinders place → before_part place ++ shape_text s ≡ chain_text no_shapes s
unfolding behind_text
before_body Leaf s is = absurd is
before_body Application s is = absurd is
before_body Conditional s is = absurd is
before_body NegatedZero s is = absurd is
before_body And s is = absurd is
before_body Or s is = absurd is
before_body Sum s is = absurd is
before_body Product s is = absurd is
before_body Forall s is = refl
before_body Exists s is = refl
before_body Lambda s is = refl

more_binders : (place : Kind) (binders : Shapes) (body : Shape) → HasBinders place → AreSome binders
    → between place ++ inner_text (Chained place binders body) ≡ chain_text binders body
unfolding shapes_text behind_text
more_binders place no_shapes body is some = absurd some
more_binders Leaf (more_shapes first rest) body is some = absurd is
more_binders Application (more_shapes first rest) body is some = absurd is
more_binders Conditional (more_shapes first rest) body is some = absurd is
more_binders NegatedZero (more_shapes first rest) body is some = absurd is
more_binders And (more_shapes first rest) body is some = absurd is
more_binders Or (more_shapes first rest) body is some = absurd is
more_binders Sum (more_shapes first rest) body is some = absurd is
more_binders Product (more_shapes first rest) body is some = absurd is
more_binders Forall (more_shapes first rest) body is some = refl
more_binders Exists (more_shapes first rest) body is some = refl
more_binders Lambda (more_shapes first rest) body is some = refl

leaf_behind : (place : Kind) → HasBinders place → goes_on (Some place) Leaf ≡ false
leaf_behind Leaf is = absurd is
leaf_behind Application is = absurd is
leaf_behind Conditional is = absurd is
leaf_behind NegatedZero is = absurd is
leaf_behind And is = absurd is
leaf_behind Or is = absurd is
leaf_behind Sum is = absurd is
leaf_behind Product is = absurd is
leaf_behind Forall is = refl
leaf_behind Exists is = refl
leaf_behind Lambda is = refl

list_behind : (place kind : Kind) → HasBinders place → HasParts kind → (on : Bool) → goes_on (Some place) kind ≡ on → goes_on (Some place) kind ≡ false
list_behind place kind is has false on = on
list_behind place kind is has true on = absurd (never kind (subst HasBinders (same_kind place kind on) is) has)
  where
    never : (kind : Kind) → HasBinders kind → HasParts kind → ⊥
    never Leaf is has = is
    never Application is has = is
    never Conditional is has = is
    never NegatedZero is has = is
    never And is has = is
    never Or is has = is
    never Sum is has = is
    never Product is has = is
    never Forall is has = has
    never Exists is has = has
    never Lambda is has = has

chained_by : (place kind : Kind) (binders : Shapes) (body : Shape) → HasBinders place → AreSome binders → (on : Bool) → goes_on (Some place) kind ≡ on
    → (if on then between kind ++ inner_text (Chained kind binders body) else before_part place ++ shape_text (chain_shape kind binders body))
    ≡ chain_text (if on then binders else no_shapes) (if on then body else chain_shape kind binders body)
chained_by place kind binders body is some false on = before_body place (chain_shape kind binders body) is
chained_by place kind binders body is some true on =
    subst (λ (k : Kind). between k ++ inner_text (Chained k binders body) ≡ chain_text binders body) (same_kind place kind on) (more_binders place binders body is some)

-- A term behind binders is the binders that follow, and the body.
pub behind_binders : (place : Kind) (w : Written) → HasBinders place → IsProper w → placed (Some place) w ≡ chain_text (binders_in place w) (body_in place w)
behind_binders place (Whole shape) binds is = placed_in place (Whole shape) is ∙ rw (leaf_behind place binds) (before_body place shape binds)
behind_binders place (Listed kind parts) binds is =
    placed_in place (Listed kind parts) is ∙ rw (list_behind place kind binds is.0 (goes_on (Some place) kind) refl) (before_body place (list_shape kind parts) binds)
behind_binders place (Chained kind binders body) binds is =
    placed_in place (Chained kind binders body) is ∙ chained_by place kind binders body binds is.1 (goes_on (Some place) kind) refl

-- ---- shapes behind others

pub behind_joined : (parts others : Shapes) → behind_text (joined parts others) ≡ behind_text parts ++ behind_text others
unfolding behind_text
behind_joined no_shapes others = refl
behind_joined (more_shapes first rest) others = rw (behind_joined rest others) (sym (append_assoc (codes " " ++ shape_text first) (behind_text rest) (behind_text others)))

pub shapes_joined : (parts others : Shapes) → AreSome parts → shapes_text (joined parts others) ≡ shapes_text parts ++ behind_text others
unfolding shapes_text
shapes_joined no_shapes others some = absurd some
shapes_joined (more_shapes first rest) others some = rw (behind_joined rest others) (sym (append_assoc (shape_text first) (behind_text rest) (behind_text others)))

pub joined_some : (parts : Shapes) (s : Shape) → AreSome (joined parts (one_shape s))
joined_some no_shapes s = tt
joined_some (more_shapes first rest) s = tt

pub in_list_some : (place : Kind) (w : Written) → IsProper w → AreSome (in_list place w)
in_list_some place (Whole shape) is = tt
in_list_some place (Listed kind parts) is = by (goes_on (Some place) kind)
  where
    by : (on : Bool) → AreSome (if on then parts else one_shape (list_shape kind parts))
    by true = is.1
    by false = tt
in_list_some place (Chained kind binders body) is = tt
