-- How the kinds of faults are written.
use Rattle.std.specs.Prelude.{ℕ, List, codes}
use Rattle.goal_text.specs.declared.fault.GoalKind.{GoalKind}
use Rattle.goal_text.specs.declared.fault.GoalKind.TheVariants.{TooLong, BadByte, Unopened, TooDeep, Unclosed, Syntax, Number, UnknownName, DeclaredTwice, IllTyped, FreeTypeVariable, NotBool, TwoGoals, NoGoal}

abbrev pub kind_name : GoalKind → List ℕ
kind_name TooLong = codes "TooLong"
kind_name BadByte = codes "BadByte"
kind_name Unopened = codes "Unopened"
kind_name TooDeep = codes "TooDeep"
kind_name Unclosed = codes "Unclosed"
kind_name Syntax = codes "Syntax"
kind_name Number = codes "Number"
kind_name UnknownName = codes "UnknownName"
kind_name DeclaredTwice = codes "DeclaredTwice"
kind_name IllTyped = codes "IllTyped"
kind_name FreeTypeVariable = codes "FreeTypeVariable"
kind_name NotBool = codes "NotBool"
kind_name TwoGoals = codes "TwoGoals"
kind_name NoGoal = codes "NoGoal"
