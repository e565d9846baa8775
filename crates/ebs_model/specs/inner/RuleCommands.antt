-- Beside what is promised: what each command on an account's rules changes, and when it is refused (Recycle Bin documentation, retention rules and rule lock).
use Rattle.std.specs.Prelude.{◌≡◌, true}
use Rattle.ebs_model.specs.declared.rules.RuleCommand.{RuleCommand}
use Rattle.ebs_model.specs.declared.rules.RuleCommand.TheVariants.{Create, Update, Delete, Lock, Unlock}
use Rattle.ebs_model.specs.Limits.{is_retention, is_retention_given}

-- the days that a command gives are within their limits
abbrev pub HasRetention : RuleCommand → Type 0
HasRetention (Create days tags description delay) = is_retention days ≡ true
HasRetention (Update key days tags description) = is_retention_given days ≡ true
HasRetention (Delete key) = Unit {0}
HasRetention (Lock key delay) = Unit {0}
HasRetention (Unlock key) = Unit {0}
