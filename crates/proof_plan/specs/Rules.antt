-- The names of the proof rules, and their numbers of premises. Source: the proof rules of Z3's API.
use Rattle.std.specs.Prelude.{◌≡◌, ℕ, ◌<◌, List, codes}
use Rattle.proof_plan.specs.declared.rule.Rule.{Rule}
use Rattle.proof_plan.specs.declared.rule.Rule.TheVariants.{Asserted, Goal, TrueAxiom, Hypothesis, Mp, MpTilde, Refl, Symm, Trans, TransStar, Monotonicity, IffTilde, IffTrue, IffFalse, AndElim, NotOrElim, Lemma, UnitResolution, DefAxiom, NnfPos, NnfNeg, QuantIntro, QuantInst, PullQuant, PushQuant, ElimUnused, Der, Sk, IntroDef, ApplyDef, Rewrite, Commutativity, Distributivity, ThLemma}

-- the name by which a rule is printed
abbrev pub rule_name : Rule → List ℕ
rule_name Asserted = codes "asserted"
rule_name Goal = codes "goal"
rule_name TrueAxiom = codes "true-axiom"
rule_name Hypothesis = codes "hypothesis"
rule_name Mp = codes "mp"
rule_name MpTilde = codes "mp~"
rule_name Refl = codes "refl"
rule_name Symm = codes "symm"
rule_name Trans = codes "trans"
rule_name TransStar = codes "trans*"
rule_name Monotonicity = codes "monotonicity"
rule_name IffTilde = codes "iff~"
rule_name IffTrue = codes "iff-true"
rule_name IffFalse = codes "iff-false"
rule_name AndElim = codes "and-elim"
rule_name NotOrElim = codes "not-or-elim"
rule_name Lemma = codes "lemma"
rule_name UnitResolution = codes "unit-resolution"
rule_name DefAxiom = codes "def-axiom"
rule_name NnfPos = codes "nnf-pos"
rule_name NnfNeg = codes "nnf-neg"
rule_name QuantIntro = codes "quant-intro"
rule_name QuantInst = codes "quant-inst"
rule_name PullQuant = codes "pull-quant"
rule_name PushQuant = codes "push-quant"
rule_name ElimUnused = codes "elim-unused"
rule_name Der = codes "der"
rule_name Sk = codes "sk"
rule_name IntroDef = codes "intro-def"
rule_name ApplyDef = codes "apply-def"
rule_name Rewrite = codes "rewrite"
rule_name Commutativity = codes "commutativity"
rule_name Distributivity = codes "distributivity"
rule_name ThLemma = codes "th-lemma"

-- an application of the rule may have so many premises
abbrev pub TakesPremises : Rule → ℕ → Type 0
TakesPremises Asserted n = n ≡ 0
TakesPremises Goal n = n ≡ 0
TakesPremises TrueAxiom n = n ≡ 0
TakesPremises Hypothesis n = n ≡ 0
TakesPremises Mp n = n ≡ 2
TakesPremises MpTilde n = n ≡ 2
TakesPremises Refl n = n ≡ 0
TakesPremises Symm n = n ≡ 1
TakesPremises Trans n = n ≡ 2
TakesPremises TransStar n = 0 < n
TakesPremises Monotonicity n = Unit {0}
TakesPremises IffTilde n = n ≡ 1
TakesPremises IffTrue n = n ≡ 1
TakesPremises IffFalse n = n ≡ 1
TakesPremises AndElim n = n ≡ 1
TakesPremises NotOrElim n = n ≡ 1
TakesPremises Lemma n = n ≡ 1
TakesPremises UnitResolution n = 0 < n
TakesPremises DefAxiom n = n ≡ 0
TakesPremises NnfPos n = Unit {0}
TakesPremises NnfNeg n = Unit {0}
TakesPremises QuantIntro n = n ≡ 1
TakesPremises QuantInst n = n ≡ 0
TakesPremises PullQuant n = n ≡ 0
TakesPremises PushQuant n = n ≡ 0
TakesPremises ElimUnused n = n ≡ 0
TakesPremises Der n = n ≡ 0
TakesPremises Sk n = n ≡ 0
TakesPremises IntroDef n = n ≡ 0
TakesPremises ApplyDef n = n ≡ 1
TakesPremises Rewrite n = n ≡ 0
TakesPremises Commutativity n = n ≡ 0
TakesPremises Distributivity n = n ≡ 0
TakesPremises ThLemma n = Unit {0}
