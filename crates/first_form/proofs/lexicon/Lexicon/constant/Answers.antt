use Rattle.std.proofs.Common.{rules}
use Rattle.first_form.proofs.LexiconLemmas.{number-dollar, number-bare}
use Rattle.first_form.proofs.lexicon.Lexicon.constant.Goals as goal

pub returns-in-Some : goal.returns-in-Some
returns-in-Some c = let is = number-dollar c.args.self.now.constants c.args.text.now (search rules) in rw is (search rules)

pub returns-in-None : goal.returns-in-None
returns-in-None c = let is = number-bare c.args.self.now.constants c.args.text.now (search rules) in rw is (search rules)
