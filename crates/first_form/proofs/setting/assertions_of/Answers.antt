use Rattle.std.proofs.Common.{◌≡◌, ◌∙◌, ◌++◌, ◌∷◌, [], sym, ap}
use Rattle.std.proofs.lemmas.Option.{same_Some}
use Rattle.goal_text.specs.Scope.{terms_at}
use Rattle.first_form.proofs.LexiconLemmas.{formulas_pushed, terms_pushed}
use Rattle.first_form.proofs.setting.assertions_of.Goals as goal

pub returns-clause-terms : goal.returns-clause-terms
returns-clause-terms c =
    let s = c.args.base.now in
    let u = c.not.new.base in
    let facts = c.args.facts.now in
    let negated = c.in_ok-negated.negated in
    let listed : c.in_ok-assertions.assertions ≡ facts ++ negated ∷ [] = c.in_ok-assertions.ensures ∙ c.in_ok-push.ensures.items ∙ ap (λ l. l ++ negated ∷ []) c.in_ok-given.ensures.items in
    rw listed (terms_pushed s u facts negated c.in_ok-negated.ensures.keeps c.requires.facts ∙ ap (λ t. terms_at s facts ++ t ∷ []) (sym (same_Some _ _ c.in_ok-negated.ensures.read)))

pub returns-clause-formulas : goal.returns-clause-formulas
returns-clause-formulas c =
    let facts = c.args.facts.now in
    let negated = c.in_ok-negated.negated in
    let listed : c.in_ok-assertions.assertions ≡ facts ++ negated ∷ [] = c.in_ok-assertions.ensures ∙ c.in_ok-push.ensures.items ∙ ap (λ l. l ++ negated ∷ []) c.in_ok-given.ensures.items in
    rw listed (formulas_pushed c.args.base.now c.not.new.base facts negated c.in_ok-negated.ensures.keeps c.requires.facts c.in_ok-negated.ensures.formula)
