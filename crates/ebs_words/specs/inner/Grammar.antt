-- The command line as `clap` is told of it: one level of commands, and neither help nor version.
use Rattle.std.specs.Prelude.{true, false, codes, Some, [], ◌∷◌}
use Rattle.clap.specs.Walk.{Rule}
use Rattle.clap.specs.Simple.{Shape, new_shape, new_rule, App}

abbrev pub top : Shape
top = record (new_shape (codes "ebs")) {
  no_binary_name = true;
  disable_help_flag = true;
  disable_help_subcommand = true;
  disable_version_flag = true;
  subcommand_required = true;
  is_leaf = false;
}

-- no command yet
abbrev pub level : App
level = record { top = record top { is_leaf = true }; subs = [] }

abbrev pub secret : Rule
secret = record (new_rule (codes "secret")) { long = Some (codes "secret") }

abbrev pub rounds : Rule
rounds = record (new_rule (codes "rounds")) { required = true }

abbrev pub init : Shape
init = record (new_shape (codes "init")) { rules = secret ∷ [] }

abbrev pub sample : Shape
sample = record (new_shape (codes "sample")) { rules = rounds ∷ [] }

abbrev pub grammar_app : App
grammar_app = record {
  top = top;
  subs = new_shape (codes "session") ∷ init ∷ new_shape (codes "tick") ∷ new_shape (codes "collect") ∷ new_shape (codes "usage") ∷ new_shape (codes "check") ∷ sample ∷ [];
}
