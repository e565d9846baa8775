-- The words of each command.
use Rattle.std.specs.Prelude.{◌&&◌, ◌||◌, ℕ, Bool, nat_le, ◌≡◌, true, List, length, Ok, replicate, ◌≤◌, ◌⊎◌, [], ◌∷◌, ◌++◌, codes}
use Rattle.std.specs.List.{list_all}
use Rattle.std.specs.Fmt.{decimal}
use Rattle.hex.specs.Hex.{decode_of}
use Rattle.ebs_words.specs.declared.words.Command.{Command}
use Rattle.ebs_words.specs.declared.words.Command.TheVariants.{Session, Init, Tick, Collect, Usage, Check, Sample}

-- `0` to `9` are 48 to 57, and `a` to `f` are 97 to 102
abbrev pub is_lower_digit : ℕ → Bool
is_lower_digit c = (nat_le 48 c && nat_le c 57) || (nat_le 97 c && nat_le c 102)

-- 64 lower-case hexadecimal digits, which spell the secret
abbrev pub IsSecret : List ℕ → List ℕ → Type 0
IsSecret text secret = (length text ≡ 64) × (list_all is_lower_digit text ≡ true) × (decode_of text ≡ Ok secret)

abbrev pub no_secret : List ℕ
no_secret = replicate 32 0

-- a number from 1 to this one, in decimal without a sign or a leading zero
abbrev pub IsNumber : ℕ → List ℕ → ℕ → Type 0
IsNumber most text n = (text ≡ decimal n) × (1 ≤ n) × (n ≤ most)

abbrev pub IsRounds : List ℕ → ℕ → Type 0
IsRounds text rounds = IsNumber 256 text rounds

-- the words of a server: the port at which it listens, and how many workers it has
abbrev pub IsServer : List (List ℕ) → ℕ → ℕ → Type 0
IsServer words port workers = (first second : List ℕ) × (words ≡ first ∷ second ∷ []) × IsNumber 65535 first port × IsNumber 64 second workers

-- a secret is the word behind `--secret`, or stands in one word with it
abbrev pub GivesSecret : List (List ℕ) → List ℕ → Type 0
GivesSecret words text = (words ≡ codes "init" ∷ codes "--secret" ∷ text ∷ []) ⊎ (words ≡ codes "init" ∷ (codes "--secret=" ++ text) ∷ [])

-- `init` without a secret is `init` with the secret of zeros
abbrev pub IsInit : List (List ℕ) → List ℕ → Type 0
IsInit words secret = ((words ≡ codes "init" ∷ []) × (secret ≡ no_secret)) ⊎ ((text : List ℕ) × GivesSecret words text × IsSecret text secret)

-- the words ask for this command
abbrev pub IsSpelled : Command → List (List ℕ) → Type 0
IsSpelled Session words = words ≡ codes "session" ∷ []
IsSpelled (Init secret) words = IsInit words secret
IsSpelled Tick words = words ≡ codes "tick" ∷ []
IsSpelled Collect words = words ≡ codes "collect" ∷ []
IsSpelled Usage words = words ≡ codes "usage" ∷ []
IsSpelled Check words = words ≡ codes "check" ∷ []
IsSpelled (Sample rounds) words = (text : List ℕ) × (words ≡ codes "sample" ∷ text ∷ []) × IsRounds text rounds
