-- What holds of a board before and after several steps, where it is told.
use Rattle.std.proofs.Common.{Option, Some, None, IfSome}
use Rattle.pool_run.specs.HeldBoards.{WhereTold}

-- no step
pub told-none : {B : Type 0} (o : Option B) (I : B → Type 0) (P : B → B → Type 0) → ((b : B) → I b → P b b) → IfSome o I → WhereTold o o P
told-none None I P none holds = tt
told-none (Some b) I P none holds = none b holds

-- one step after another
pub told-then : {B : Type 0} (o p q : Option B) (P Q R : B → B → Type 0) → ((b c d : B) → P b c → Q c d → R b d)
    → WhereTold o p P → WhereTold p q Q → WhereTold o q R
told-then None p q P Q R both one other = tt
told-then (Some b) None q P Q R both one other = absurd one
told-then (Some b) (Some c) None P Q R both one other = absurd other
told-then (Some b) (Some c) (Some d) P Q R both one other = both b c d one other

-- the same, with what holds of each board that the later step leaves
pub told-also : {B : Type 0} (o p q : Option B) (P Q R : B → B → Type 0) (I : B → Type 0) → ((b c d : B) → P b c → Q c d → I d → R b d)
    → WhereTold o p P → WhereTold p q Q → IfSome q I → WhereTold o q R
told-also None p q P Q R I all one other holds = tt
told-also (Some b) None q P Q R I all one other holds = absurd one
told-also (Some b) (Some c) None P Q R I all one other holds = absurd other
told-also (Some b) (Some c) (Some d) P Q R I all one other holds = all b c d one other holds
