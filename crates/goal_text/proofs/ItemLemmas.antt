-- Items so far, while their store goes on, and with one item more.
use Rattle.std.proofs.Common.{◌≡◌, ℕ, List, [], ◌∷◌, ◌++◌, Option, Some, None, Bool, refl, sym, ap, subst, ◌∙◌}
use Rattle.std.specs.Prelude.{IfSome, option_map}
use Rattle.std.specs.List.{AllByRecursion}
use Rattle.hol_types.specs.Ty.{Ty}
use Rattle.hol_types.specs.TypeStore.{HasType, arity_of, text_of, type_tree}
use Rattle.hol_terms.specs.Term.{Term}
use Rattle.hol_terms.specs.TermStore.{TermStore, Keeps, term_tree}
use Rattle.goal_text.specs.declared.items.Items.{Items as Made}
use Rattle.goal_text.specs.declared.problem.Declared.{Declared}
use Rattle.goal_text.specs.declared.scope.Constructor.{Constructor}
use Rattle.goal_text.specs.declared.scope.Constant.{Constant}
use Rattle.goal_text.specs.Items.{with_type}
use Rattle.goal_text.specs.ItemsIn.{AreItems, HasDeclared, declared_in, items_in, with_constant}
use Rattle.goal_text.specs.Matching.{is_ground}
use Rattle.goal_text.specs.Scope.{AreBound, AreConstants, AreConstructors, AreTerms, IsConstant, IsConstructor, IsNameOf, consts_in, terms_at, types_in}
use Rattle.goal_text.specs.Sentences.{HasSentence, HaveSentences, IsSentence}
use Rattle.goal_text.proofs.ScopeLemmas.{constants_same, scope_kept, terms_same}

pub declared_kept : {s u : TermStore} (ds : List Declared) → Keeps s u → AllByRecursion (λ d. HasDeclared s d) ds → AllByRecursion (λ d. HasDeclared u d) ds
declared_kept [] k all = tt
declared_kept (d ∷ ds) k all = ((k.names d.name all.0.0, k.types d.ty all.0.1), declared_kept ds k all.1)

pub declared_same : {s u : TermStore} (ds : List Declared) → Keeps s u → AllByRecursion (λ d. HasDeclared s d) ds → declared_in u ds ≡ declared_in s ds
declared_same [] k all = refl
declared_same (d ∷ ds) k all = let e = k.texts d.name all.0.0 in let f = k.type_trees d.ty all.0.1 in let g = declared_same ds k all.1 in rw (e, f, g) refl

pub sentence_kept : (s u : TermStore) (t : ℕ) → Keeps s u → HasSentence s t → HasSentence u t
sentence_kept s u t k h = record { there = k.terms t h.there; sentence = let P : Term → Type 0 = λ x. IsSentence x in subst P (sym (k.trees t h.there)) h.sentence }

pub sentences_kept : (s u : TermStore) (ts : List ℕ) → Keeps s u → HaveSentences s ts → HaveSentences u ts
sentences_kept s u [] k all = tt
sentences_kept s u (t ∷ ts) k all = (sentence_kept s u t k all.0, sentences_kept s u ts k all.1)

sentence_terms : (s : TermStore) (ts : List ℕ) → HaveSentences s ts → AreTerms s ts
sentence_terms s [] all = tt
sentence_terms s (t ∷ ts) all = (all.0.there, sentence_terms s ts all.1)

goal_kept : (s u : TermStore) (goal : Option ℕ) → Keeps s u → IfSome goal (λ t. HasSentence s t) → IfSome goal (λ t. HasSentence u t)
goal_kept s u None k h = tt
goal_kept s u (Some t) k h = sentence_kept s u t k h

goal_same : (s u : TermStore) (goal : Option ℕ) → Keeps s u → IfSome goal (λ t. HasSentence s t) → option_map (λ t. term_tree u t) goal ≡ option_map (λ t. term_tree s t) goal
goal_same s u None k h = refl
goal_same s u (Some t) k h = ap Some (k.trees t h.there)

module _ (made : Made) (u : TermStore) (k : Keeps made.base u) (is : AreItems made) where
  -- they are the same in a store that has gone on
  pub items_kept : AreItems (record made { base = u })
  items_kept = record {
    scope = scope_kept k is.scope;
    outermost = is.outermost;
    consts = declared_same made.consts.items k is.declared ∙ is.consts ∙ sym (constants_same made.scope.consts k is.scope.consts);
    declared = declared_kept made.consts.items k is.declared;
    facts = sentences_kept made.base u made.facts.items k is.facts;
    goal = goal_kept made.base u made.goal k is.goal;
  }

  pub items_same : items_in (record made { base = u }) ≡ items_in made
  items_same =
      let consts = constants_same made.scope.consts k is.scope.consts in
      let facts = terms_same made.facts.items k (sentence_terms made.base made.facts.items is.facts) in
      let goal = goal_same made.base u made.goal k is.goal in
      rw (consts, facts, goal) refl

-- ---- lists with one more

pub types_more : (cs : List (List ℕ × Constructor)) (name : List ℕ) (c : Constructor) → types_in (cs ++ (name, c) ∷ []) ≡ types_in cs ++ (name, c.arity) ∷ []
types_more [] name c = refl
types_more (d ∷ cs) name c = ap (λ l. (d.0, d.1.arity) ∷ l) (types_more cs name c)

pub constructors_more : (s : TermStore) (cs : List (List ℕ × Constructor)) (name : List ℕ) (c : Constructor) → AreConstructors s cs → IsConstructor s name c → AreConstructors s (cs ++ (name, c) ∷ [])
constructors_more s [] name c all is = (is, tt)
constructors_more s (d ∷ cs) name c all is = (all.0, constructors_more s cs name c all.1 is)

pub consts_more : (s : TermStore) (cs : List (List ℕ × Constant)) (name : List ℕ) (c : Constant) → consts_in s (cs ++ (name, c) ∷ []) ≡ consts_in s cs ++ (name, type_tree s.types c.ty) ∷ []
consts_more s [] name c = refl
consts_more s (d ∷ cs) name c = ap (λ l. (d.0, type_tree s.types d.1.ty) ∷ l) (consts_more s cs name c)

pub constants_more : (s : TermStore) (cs : List (List ℕ × Constant)) (name : List ℕ) (c : Constant) → AreConstants s cs → IsConstant s name c → AreConstants s (cs ++ (name, c) ∷ [])
constants_more s [] name c all is = (is, tt)
constants_more s (d ∷ cs) name c all is = (all.0, constants_more s cs name c all.1 is)

pub declared_more : (s : TermStore) (ds : List Declared) (d : Declared) → declared_in s (ds ++ d ∷ []) ≡ declared_in s ds ++ (text_of s.types d.name, type_tree s.types d.ty) ∷ []
declared_more s [] d = refl
declared_more s (e ∷ ds) d = ap (λ l. (text_of s.types e.name, type_tree s.types e.ty) ∷ l) (declared_more s ds d)

pub has_declared_more : (s : TermStore) (ds : List Declared) (d : Declared) → AllByRecursion (λ e. HasDeclared s e) ds → HasDeclared s d → AllByRecursion (λ e. HasDeclared s e) (ds ++ d ∷ [])
has_declared_more s [] d all is = (is, tt)
has_declared_more s (e ∷ ds) d all is = (all.0, has_declared_more s ds d all.1 is)

-- ---- one item more

module _ (made : Made) (u : TermStore) (k : Keeps made.base u) (is : AreItems made) where
  -- a constructor is declared
  module _ (name : List ℕ) (n arity : ℕ) (types : List (List ℕ × Constructor)) (text : IsNameOf u n name) (declared : arity_of u.types n ≡ Some arity) (more : types ≡ made.scope.types ++ (name, record { name = n; arity = arity }) ∷ []) where
    pub type_declared : AreItems (record made { base = u; scope = record made.scope { types = types } })
    type_declared =
        let all = items_kept made u k is in
        record {
          scope = record {
            types = subst (λ l. AreConstructors u l) (sym more) (constructors_more u made.scope.types name (record { name = n; arity = arity }) all.scope.types (record { name_is = text; declared = declared }));
            consts = all.scope.consts;
            binders = all.scope.binders;
          };
          outermost = all.outermost;
          consts = all.consts;
          declared = all.declared;
          facts = all.facts;
          goal = all.goal;
        }

    pub type_said : items_in (record made { base = u; scope = record made.scope { types = types } }) ≡ with_type (items_in made) name arity
    type_said =
        let names : types_in types ≡ types_in made.scope.types ++ (name, arity) ∷ [] = ap (λ l. types_in l) more ∙ types_more made.scope.types name (record { name = n; arity = arity }) in
        let same = items_same made u k is in
        λ i. record (same i) { types = names i }

-- a constant is declared
module _ (old new : Made) (name : List ℕ) (n ty : ℕ) (monomorphic : Bool) (k : Keeps old.base new.base) (is : AreItems old) (text : IsNameOf new.base n name) (there : HasType old.base.types ty) (tested : monomorphic ≡ is_ground (type_tree new.base.types ty))
    (types : new.scope.types ≡ old.scope.types) (binders : new.scope.binders ≡ old.scope.binders) (consts : new.scope.consts ≡ old.scope.consts ++ (name, record { name = n; ty = ty; monomorphic = monomorphic }) ∷ [])
    (list : new.consts.items ≡ old.consts.items ++ record { name = n; ty = ty } ∷ []) (facts : new.facts.items ≡ old.facts.items) (goal : new.goal ≡ old.goal) where
  listed : declared_in new.base new.consts.items ≡ consts_in new.base new.scope.consts
  listed =
      let before : declared_in new.base old.consts.items ≡ consts_in new.base old.scope.consts = declared_same old.consts.items k is.declared ∙ is.consts ∙ sym (constants_same old.scope.consts k is.scope.consts) in
      let one : List (List ℕ × Ty) → List ℕ → List (List ℕ × Ty) = λ l m. l ++ (m, type_tree new.base.types ty) ∷ [] in
      ap (λ l. declared_in new.base l) list ∙ declared_more new.base old.consts.items (record { name = n; ty = ty }) ∙ ap (λ l. one l (text_of new.base.types n)) before ∙ ap (one (consts_in new.base old.scope.consts)) text.text
      ∙ sym (ap (λ l. consts_in new.base l) consts ∙ consts_more new.base old.scope.consts name (record { name = n; ty = ty; monomorphic = monomorphic }))

  pub constant_declared : AreItems new
  constant_declared =
      let scope = scope_kept k is.scope in
      record {
        scope = record {
          types = subst (λ l. AreConstructors new.base l) (sym types) scope.types;
          consts = subst (λ l. AreConstants new.base l) (sym consts) (constants_more new.base old.scope.consts name (record { name = n; ty = ty; monomorphic = monomorphic }) scope.consts (record { name_is = text; there = k.types ty there; monomorphic = tested }));
          binders = subst (λ l. AreBound new.base l) (sym binders) scope.binders;
        };
        outermost = binders ∙ is.outermost;
        consts = listed;
        declared = subst (λ l. AllByRecursion (λ d. HasDeclared new.base d) l) (sym list) (has_declared_more new.base old.consts.items (record { name = n; ty = ty }) (declared_kept old.consts.items k is.declared) (text.there, k.types ty there));
        facts = subst (λ l. HaveSentences new.base l) (sym facts) (sentences_kept old.base new.base old.facts.items k is.facts);
        goal = subst (λ g. IfSome g (λ t. HasSentence new.base t)) (sym goal) (goal_kept old.base new.base old.goal k is.goal);
      }

  pub constant_said : items_in new ≡ with_constant (items_in old) name (type_tree old.base.types ty)
  constant_said =
      let names : types_in new.scope.types ≡ types_in old.scope.types = ap (λ l. types_in l) types in
      let one : List (List ℕ × Ty) → Ty → List (List ℕ × Ty) = λ l t. l ++ (name, t) ∷ [] in
      let said : consts_in new.base new.scope.consts ≡ consts_in old.base old.scope.consts ++ (name, type_tree old.base.types ty) ∷ [] =
      ap (λ l. consts_in new.base l) consts ∙ consts_more new.base old.scope.consts name (record { name = n; ty = ty; monomorphic = monomorphic }) ∙ ap (λ l. one l (type_tree new.base.types ty)) (constants_same old.scope.consts k is.scope.consts)
      ∙ ap (one (consts_in old.base old.scope.consts)) (k.type_trees ty there) in
      let terms : terms_at new.base new.facts.items ≡ terms_at old.base old.facts.items = ap (λ l. terms_at new.base l) facts ∙ terms_same old.facts.items k (sentence_terms old.base old.facts.items is.facts) in
      let one_goal : option_map (λ t. term_tree new.base t) new.goal ≡ option_map (λ t. term_tree old.base t) old.goal = ap (λ g. option_map (λ t. term_tree new.base t) g) goal ∙ goal_same old.base new.base old.goal k is.goal in
      λ i. record { types = names i; consts = said i; facts = terms i; goal = one_goal i }
