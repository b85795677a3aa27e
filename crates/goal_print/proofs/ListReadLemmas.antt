-- Applications and binders by the shapes of their lists.
use Rattle.std.proofs.Common.{◌≡◌, ℕ, ◌^◌, ◌<◌, List, [], ◌∷◌, ◌++◌, length, map, Some, None, Ok, true, true≢false, refl, sym, ap, subst, ◌∙◌, append_assoc, arith}
use Rattle.std.proofs.lemmas.Bool.{lt-ltb}
use Rattle.std.proofs.lemmas.List.{append-nil}
use Rattle.hol_types.specs.Ty.{Ty, BoolTy, IntTy, VarTy, FunTy, ConsTy}
use Rattle.hol_types.specs.TyEq.{ty_eq}
use Rattle.hol_types.proofs.TyEqLemmas.{ty_eq_refl}
use Rattle.hol_types.specs.Exact.{both_true}
use Rattle.hol_terms.specs.Term.{Term, AppTm, ty_of, result_ty}
use Rattle.sexp.specs.Tree.{Tree, Trees, AtomTree, QuotedTree, ListTree, no_trees, more_trees, count}
use Rattle.goal_text.specs.declared.word.Word.TheVariants.{Binds}
use Rattle.goal_text.specs.declared.word.Binder.{Binder}
use Rattle.goal_text.specs.Lexicon.{word_of, two_of, variable_of}
use Rattle.goal_text.specs.Names.{Binders, Constants, Constructors, Env}
use Rattle.goal_text.specs.Operations.{fits_body, under, under_all}
use Rattle.goal_text.specs.Forms.{Applied, Binding, application, binder_by, binder_list, binder_of, binders_of, binding, form_of, head_word}
use Rattle.goal_text.specs.Types.{type_of}
use Rattle.goal_text.specs.Terms.{applied, apply_all, built, takes_all, term_of, terms_of}
use Rattle.goal_print.specs.Shapes.{Shape, Shapes, AtomShape, ListShape, no_shapes, more_shapes, joined, one_shape, HasShape, HaveShapes}
use Rattle.goal_print.specs.TermShape.{binder_shape, headed_by, type_shape}
use Rattle.goal_print.specs.TermText.{variable_text}
use Rattle.goal_text.specs.Given.{IsGivenType}
use Rattle.goal_print.specs.Under.{named, under_binders}
use Rattle.goal_print.proofs.WordLemmas.{variable_form}
use Rattle.goal_print.proofs.TypeReadLemmas.{reads_type}
use Rattle.goal_print.proofs.PartReadLemmas.{IsHeaded, ReadAll, Reads, all_joined, all_one, headed, two_shapes}

-- ---- applications

-- what such a tree leads is an application whose parts are all terms
pub record IsPlain (env : Env) (s : Shape) : Type 0 where
  pub no_word : (tree : Tree) → HasShape s tree → head_word tree ≡ None
  pub leads : (tree : Tree) → HasShape s tree → application env tree ≡ Applied

pub list_plain : (env : Env) (parts : Shapes) → IsPlain env (ListShape parts)
unfolding HasShape application
list_plain env parts = record { no_word = λ tree h. no_word tree h; leads = λ tree h. leads tree h }
  where
    no_word : (tree : Tree) → HasShape (ListShape parts) tree → head_word tree ≡ None
    no_word (AtomTree at text) h = absurd h
    no_word (QuotedTree at text) h = absurd h
    no_word (ListTree at trees) h = refl

    leads : (tree : Tree) → HasShape (ListShape parts) tree → application env tree ≡ Applied
    leads (AtomTree at text) h = absurd h
    leads (QuotedTree at text) h = absurd h
    leads (ListTree at trees) h = refl

-- a function and arguments
pub record IsSpine (env : Env) (parts : Shapes) (t : Term) : Type 0 where
  pub head : Shape
  pub rest : Shapes
  pub are : parts ≡ more_shapes head rest
  pub plain : IsPlain env head
  pub function : Term
  pub arguments : List Term
  pub all : ReadAll env parts (function ∷ arguments)
  pub takes : takes_all (ty_of function) (map ty_of arguments) ≡ true
  pub is : applied function arguments ≡ t

pub spine_alone : {env : Env} {s : Shape} {t : Term} → Reads env s t → IsPlain env s → IsSpine env (one_shape s) t
spine_alone {s = s} {t = t} one plain = record { head = s; rest = no_shapes; are = refl; plain = plain; function = t; arguments = []; all = all_one one; takes = refl; is = refl }

applied_pushed : (f : Term) (xs : List Term) (x : Term) → applied f (xs ++ x ∷ []) ≡ AppTm (applied f xs) x
applied_pushed f [] x = refl
applied_pushed f (y ∷ ys) x = applied_pushed (AppTm f y) ys x

takes_pushed : (f : Term) (xs : List Term) (x : Term) (r : Ty) → takes_all (ty_of f) (map ty_of xs) ≡ true → ty_of (applied f xs) ≡ FunTy (ty_of x) r → takes_all (ty_of f) (map ty_of (xs ++ x ∷ [])) ≡ true
takes_pushed f [] x r h e = rw (e, ty_eq_refl (ty_of x)) refl
takes_pushed f (y ∷ ys) x r h e = by (ty_of f) refl h (λ k. takes_pushed (AppTm f y) ys x r k e)
  where
    by : (t : Ty) → ty_of f ≡ t → takes_all t (map ty_of (y ∷ ys)) ≡ true → (takes_all (ty_of (AppTm f y)) (map ty_of ys) ≡ true → takes_all (ty_of (AppTm f y)) (map ty_of (ys ++ x ∷ [])) ≡ true)
        → takes_all t (map ty_of ((y ∷ ys) ++ x ∷ [])) ≡ true
    by BoolTy i k later = absurd (true≢false (sym k))
    by IntTy i k later = absurd (true≢false (sym k))
    by (VarTy n) i k later = absurd (true≢false (sym k))
    by (ConsTy n us) i k later = absurd (true≢false (sym k))
    by (FunTy a b) i k later =
        let both = both_true (ty_eq a (ty_of y)) (takes_all b (map ty_of ys)) k in
        let result : ty_of (AppTm f y) ≡ b = ap result_ty i in
        let rest = later (ap (λ t. takes_all t (map ty_of ys)) result ∙ both.1) in
        let more : takes_all b (map ty_of (ys ++ x ∷ [])) ≡ true = ap (λ t. takes_all t (map ty_of (ys ++ x ∷ []))) (sym result) ∙ rest in
        rw (both.0, more) refl

-- one argument more
pub spine_more : {env : Env} {parts : Shapes} {f : Term} {s : Shape} {x : Term} (r : Ty) → IsSpine env parts f → Reads env s x → ty_of f ≡ FunTy (ty_of x) r → IsSpine env (joined parts (one_shape s)) (AppTm f x)
spine_more {env = env} {parts = parts} {f = f} {s = s} {x = x} r spine one type = record {
  head = spine.head;
  rest = joined spine.rest (one_shape s);
  are = ap (λ l. joined l (one_shape s)) spine.are;
  plain = spine.plain;
  function = spine.function;
  arguments = spine.arguments ++ x ∷ [];
  all = all_joined spine.all (all_one one);
  takes = takes_pushed spine.function spine.arguments x r spine.takes (ap ty_of spine.is ∙ type);
  is = applied_pushed spine.function spine.arguments x ∙ ap (λ g. AppTm g x) spine.is;
}

one_behind : (ss : Shapes) (s : Shape) (trees : Trees) → HaveShapes (joined ss (one_shape s)) trees → 0 < count trees
unfolding HaveShapes
one_behind no_shapes s no_trees h = absurd h
one_behind no_shapes s (more_trees tree trees) h = omega arith
one_behind (more_shapes t ts) s no_trees h = absurd h
one_behind (more_shapes t ts) s (more_trees tree trees) h = omega arith

applied_form : (env : Env) (at : ℕ) (head : Tree) (rest : Trees) → head_word head ≡ None → application env head ≡ Applied → 0 < count rest → form_of env at (more_trees head rest) ≡ Ok Applied
unfolding form_of
applied_form env at head rest no_word leads some = rw (no_word, leads, lt-ltb 0 (count rest) some) refl

pub applied_read : {env : Env} {parts : Shapes} {f : Term} {s : Shape} {x : Term} (r : Ty) → IsSpine env parts f → Reads env s x → ty_of f ≡ FunTy (ty_of x) r → Reads env (ListShape (joined parts (one_shape s))) (AppTm f x)
unfolding HasShape HaveShapes term_of terms_of built apply_all
applied_read {env = env} {parts = parts} {f = f} {s = s} {x = x} r spine one type = record { read = λ tree h. read tree h }
  where
    more : IsSpine env (joined parts (one_shape s)) (AppTm f x)
    more = spine_more r spine one type

    form : (at : ℕ) (trees : Trees) → HaveShapes (joined parts (one_shape s)) trees → form_of env at trees ≡ Ok Applied
    form at trees h = by trees (subst (λ l. HaveShapes (joined l (one_shape s)) trees) spine.are h)
      where
        by : (trees : Trees) → HaveShapes (joined (more_shapes spine.head spine.rest) (one_shape s)) trees → form_of env at trees ≡ Ok Applied
        by no_trees k = absurd k
        by (more_trees head rest) k = applied_form env at head rest (spine.plain.no_word head k.0) (spine.plain.leads head k.0) (one_behind spine.rest s rest k.1)

    read : (tree : Tree) → HasShape (ListShape (joined parts (one_shape s))) tree → term_of env tree ≡ Ok (AppTm f x)
    read (AtomTree at text) h = absurd h
    read (QuotedTree at text) h = absurd h
    read (ListTree at trees) h = rw (form at trees h, more.all.read trees h, more.takes) (ap Ok more.is)

-- ---- binders

-- an entry of a binder list
entry_of : (types : Constructors) (at place depth : ℕ) (type : Ty) (second : Tree) → depth < 2 ^ 32 → type_of types second ≡ Ok type
    → binder_by types at (more_trees (AtomTree place (variable_text depth)) (more_trees second no_trees)) ≡ Ok (variable_text depth, type)
unfolding two_of variable_of
entry_of types at place depth type second below read = rw (variable_form depth below, read) refl

module _ (types : Constructors) (consts : Constants) where
  -- binders of one kind, the innermost of them last, and a body
  pub record IsChain (bs : List Ty) (binder : Binder) (entries : Shapes) (inner : Shape) (t : Term) : Type 0 where
    pub own : Binders
    pub all : List Ty
    pub body : Term
    pub within : own ++ named bs ≡ named all
    pub entries_read : (outer : Binders) (trees : Trees) → HaveShapes entries trees → binders_of types outer trees ≡ Ok (own ++ outer)
    pub body_read : Reads (under_binders types consts all) inner body
    pub fits : fits_body binder (ty_of body) ≡ true
    pub is : under_all binder own body ≡ t

  pub chain_alone : {bs : List Ty} (binder : Binder) {s : Shape} {t : Term} → Reads (under_binders types consts bs) s t → fits_body binder (ty_of t) ≡ true → IsChain bs binder no_shapes s t
  unfolding HaveShapes binders_of
  chain_alone {bs = bs} binder {s = s} {t = t} one fit = record { own = []; all = bs; body = t; within = refl; entries_read = λ outer trees h. none outer trees h; body_read = one; fits = fit; is = refl }
    where
      none : (outer : Binders) (trees : Trees) → HaveShapes no_shapes trees → binders_of types outer trees ≡ Ok outer
      none outer no_trees h = refl
      none outer (more_trees tree trees) h = absurd h

  binder_read : (depth : ℕ) (type : Ty) → depth < 2 ^ 32 → IsGivenType types type → (tree : Tree) → HasShape (binder_shape depth type) tree → binder_of types tree ≡ Ok (variable_text depth, type)
  unfolding HasShape binder_of
  binder_read depth type below given (AtomTree at text) h = absurd h
  binder_read depth type below given (QuotedTree at text) h = absurd h
  binder_read depth type below given (ListTree at parts) h =
      let two = two_shapes (AtomShape (variable_text depth)) (type_shape type) parts h in
      ap (binder_by types at) two.are ∙ both two.first two.second two.one two.two
    where
      both : (first second : Tree) → HasShape (AtomShape (variable_text depth)) first → HasShape (type_shape type) second → binder_by types at (more_trees first (more_trees second no_trees)) ≡ Ok (variable_text depth, type)
      both (QuotedTree place text) second k l = absurd k
      both (ListTree place text) second k l = absurd k
      both (AtomTree place text) second k l =
          ap (λ d. binder_by types at (more_trees (AtomTree place d) (more_trees second no_trees))) k ∙ entry_of types at place depth type second below (reads_type types type given second l)

  under_pushed : (binder : Binder) (own : Binders) (b : List ℕ × Ty) (body : Term) → under_all binder (own ++ b ∷ []) body ≡ under binder b.1 (under_all binder own body)
  under_pushed binder [] b body = refl
  under_pushed binder (c ∷ own) b body = under_pushed binder own b (under binder c.1 body)

  -- one binder more
  pub chain_more : {bs : List Ty} {binder : Binder} {entries : Shapes} {s : Shape} {t : Term} (type : Ty) → IsGivenType types type → length bs < 2 ^ 32 → IsChain (type ∷ bs) binder entries s t
      → IsChain bs binder (more_shapes (binder_shape (length bs) type) entries) s (under binder type t)
  unfolding HaveShapes binders_of
  chain_more {bs = bs} {binder = binder} {entries = entries} {s = s} {t = t} type given below chain = record {
    own = chain.own ++ (variable_text (length bs), type) ∷ [];
    all = chain.all;
    body = chain.body;
    within = append_assoc chain.own ((variable_text (length bs), type) ∷ []) (named bs) ∙ chain.within;
    entries_read = λ outer trees h. entries_read outer trees h;
    body_read = chain.body_read;
    fits = chain.fits;
    is = under_pushed binder chain.own (variable_text (length bs), type) chain.body ∙ ap (under binder type) chain.is;
  }
    where
      entries_read : (outer : Binders) (trees : Trees) → HaveShapes (more_shapes (binder_shape (length bs) type) entries) trees → binders_of types outer trees ≡ Ok ((chain.own ++ (variable_text (length bs), type) ∷ []) ++ outer)
      entries_read outer no_trees h = absurd h
      entries_read outer (more_trees tree trees) h =
          rw (binder_read (length bs) type below given tree h.0, chain.entries_read ((variable_text (length bs), type) ∷ outer) trees h.1)
          (ap Ok (sym (append_assoc chain.own ((variable_text (length bs), type) ∷ []) outer)))

  binder_form : (bs : List Ty) (at head_at : ℕ) (word : List ℕ) (binder : Binder) (list body : Tree) (own : Binders) → word_of word ≡ Some (Binds binder) → binder_list types list ≡ Ok own
      → form_of (under_binders types consts bs) at (more_trees (AtomTree head_at word) (more_trees list (more_trees body no_trees))) ≡ Ok (Binding binder own)
  unfolding form_of binding two_of
  binder_form bs at head_at word binder list body own w read = rw (w, read) refl

  list_read : (first : Shape) (rest : Shapes) (own : Binders) → ((trees : Trees) → HaveShapes (more_shapes first rest) trees → binders_of types [] trees ≡ Ok own) → (tree : Tree) → HasShape (ListShape (more_shapes first rest)) tree → binder_list types tree ≡ Ok own
  unfolding HasShape HaveShapes binder_list
  list_read first rest own read (AtomTree at text) h = absurd h
  list_read first rest own read (QuotedTree at text) h = absurd h
  list_read first rest own read (ListTree at no_trees) h = absurd h
  list_read first rest own read (ListTree at (more_trees tree trees)) h = read (more_trees tree trees) h

  pub chain_read : {bs : List Ty} {binder : Binder} {first : Shape} {rest : Shapes} {s : Shape} {t : Term} (word : List ℕ) → word_of word ≡ Some (Binds binder) → IsChain bs binder (more_shapes first rest) s t
      → Reads (under_binders types consts bs) (headed_by word (more_shapes (ListShape (more_shapes first rest)) (one_shape s))) t
  unfolding term_of terms_of built
  chain_read {bs = bs} {binder = binder} {first = first} {rest = rest} {s = s} {t = t} word w chain = record { read = λ tree h. read tree (headed word (more_shapes (ListShape (more_shapes first rest)) (one_shape s)) tree h) }
    where
      env : Env
      env = under_binders types consts bs

      own_read : (trees : Trees) → HaveShapes (more_shapes first rest) trees → binders_of types [] trees ≡ Ok chain.own
      own_read trees h = chain.entries_read [] trees h ∙ ap Ok (append-nil chain.own)

      within : record env { binders = chain.own ++ named bs } ≡ under_binders types consts chain.all
      within = ap (λ b. record env { binders = b }) chain.within

      read : (tree : Tree) → IsHeaded word (more_shapes (ListShape (more_shapes first rest)) (one_shape s)) tree → term_of env tree ≡ Ok t
      read tree h =
          let two = two_shapes (ListShape (more_shapes first rest)) s h.rest h.have in
          let form : form_of env h.at (more_trees (AtomTree h.head_at word) (more_trees two.first (more_trees two.second no_trees))) ≡ Ok (Binding binder chain.own) =
          binder_form bs h.at h.head_at word binder two.first two.second chain.own w (list_read first rest chain.own own_read two.first two.one) in
          let body : term_of (record env { binders = chain.own ++ named bs }) two.second ≡ Ok chain.body = ap (λ e. term_of e two.second) within ∙ chain.body_read.read two.second two.two in
          ap (term_of env) h.is ∙ ap (λ ts. term_of env (ListTree h.at (more_trees (AtomTree h.head_at word) ts))) two.are
          ∙ rw (form, body, chain.fits) (ap Ok chain.is)
