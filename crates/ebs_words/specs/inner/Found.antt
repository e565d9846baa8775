-- What `clap` found in the words, as a command.
use Rattle.std.specs.Prelude.{◌≡◌, List, Option, Some, ℕ, None, codes}
use Rattle.clap.specs.Walk.{Row, Text, first_of}
use Rattle.ebs_words.specs.declared.words.Command.{Command}
use Rattle.ebs_words.specs.declared.words.Command.TheVariants.{Session, Init, Tick, Collect, Usage, Check, Sample}
use Rattle.ebs_words.specs.Spellings.{IsSecret, no_secret, IsRounds}

-- the command's name was met, with these values
abbrev pub IsNamed : Text → Option (Text × List Row) → List Row → Type 0
IsNamed name found values = found ≡ Some (name, values)

-- the secret that is given, or that of zeros
abbrev pub IsSecretIn : Option Text → List ℕ → Type 0
IsSecretIn None secret = secret ≡ no_secret
IsSecretIn (Some text) secret = IsSecret text secret

abbrev pub IsRoundsIn : Option Text → ℕ → Type 0
IsRoundsIn None rounds = ⊥
IsRoundsIn (Some text) rounds = IsRounds text rounds

-- the command was met, with its values
abbrev pub IsFound : Command → Option (Text × List Row) → Type 0
IsFound Session found = (values : List Row) × IsNamed (codes "session") found values
IsFound (Init secret) found = (values : List Row) × IsNamed (codes "init") found values × IsSecretIn (first_of (codes "secret") values) secret
IsFound Tick found = (values : List Row) × IsNamed (codes "tick") found values
IsFound Collect found = (values : List Row) × IsNamed (codes "collect") found values
IsFound Usage found = (values : List Row) × IsNamed (codes "usage") found values
IsFound Check found = (values : List Row) × IsNamed (codes "check") found values
IsFound (Sample rounds) found = (values : List Row) × IsNamed (codes "sample") found values × IsRoundsIn (first_of (codes "rounds") values) rounds
