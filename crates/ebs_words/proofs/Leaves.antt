-- What `clap` makes of the words behind a command's name, of which none is `--`.
use Rattle.std.proofs.Common.{◌≡◌, ◌||◌, ◌∙◌, ◌++◌, ℕ, Bool, List, [], ◌∷◌, length, Option, Some, None, true, false, refl, sym, ap, codes}
use Rattle.std.specs.Prelude.{slice_get}
use Rattle.std.specs.List.{fold, list_any}
use Rattle.std.specs.Option.{option_map_or}
use Rattle.std.specs.Str.{bytes_eq, chars}
use Rattle.std.proofs.lemmas.Slice.Eq.{bytes_eq-Decides}
use Rattle.clap.specs.Lexer.{long_of, short_of}
use Rattle.clap.specs.Kinds.{Kinds, or_else}
use Rattle.clap.specs.Simple.{Shape, new_rule, new_shape}
use Rattle.clap.specs.Walk.{Held, Names, Outcome, Row, Rule, Text, Waiting, Walk, after_flag, after_step, reacted, settled, settled_rows, subcommand_met, arg_by_long, arg_by_short, bundle, bundle_met, bundle_step, idle, long_or_other, long_word, nothing_held, option, plain, plain_word, short_or_plain, walked}
use Rattle.clap.specs.Faults.{bundle_fault, bundle_step_fault, flag_word_fault, flags_fault, level_fault, long_fault, react_fault, settle_fault, step_fault, turn_fault, walk_fault}
use Rattle.clap.specs.declared.builder.action.ArgAction.TheVariants.{Set}
use Rattle.clap.specs.declared.builder.value_parser.ValueParser.TheVariants as vp
use Rattle.clap.specs.declared.parser.matches.ValueSource.TheVariants.{CommandLine}
use Rattle.clap.specs.declared.builder.value_parser.Reading.TheVariants as reading
use Rattle.ebs_words.proofs.Options.{IsLong, alone as alone_word, joined as joined_word, long_is}

pub both_empty : (a b : Kinds) → or_else a b ≡ [] → (a ≡ []) × (b ≡ [])
both_empty [] b e = (refl, e)
both_empty (k ∷ ks) b e = absurd cc

-- ---- a word that is no option

abbrev HasNoShorts : List Rule → Type 0
HasNoShorts c = (x : ℕ) → arg_by_short c x ≡ None

abbrev pub held : List Row → Option (Text × List Text) → Held
held rows pending = record { rows = rows; pending = pending; skip = 0 }

step_plain : (c : List Rule) (again : Bool) → HasNoShorts c → (o : Option ℕ) (flags : Text) (h : Held) (next : Text → ℕ → Outcome → Held → Held × Outcome) (fault : Text → ℕ → Held → Kinds)
    → bundle_step_fault c again o flags 0 h fault ≡ [] → bundle_step c o flags 0 plain h next ≡ (h, plain)
step_plain c again none None flags h next fault e = refl
step_plain c again none (Some x) flags h next fault e = let bad = rw (none x) at e in cc

bundle_plain : (c : List Rule) (again : Bool) → HasNoShorts c → (flags : Text) (rows : List Row) (pending : Option (Text × List Text)) → bundle_fault c again flags (held rows pending) ≡ []
    → bundle c flags (held rows pending) ≡ (held rows pending, plain)
unfolding bundle_met flags_fault
bundle_plain c again none [] rows pending e = refl
bundle_plain c again none (b ∷ bs) rows pending e =
    step_plain c again none (slice_get (chars (b ∷ bs)) 0) (b ∷ bs) (held rows pending) (bundle_met c (length bs)) (flags_fault c again (length bs)) e

short_plain : (c : List Rule) (again : Bool) → HasNoShorts c → (waiting : Waiting) (word : Text) (flags : Option Text) (rows : List Row) (pending : Option (Text × List Text))
    → option_map_or (λ f. bundle_fault c again f (held rows pending)) flags [] ≡ [] → short_or_plain c waiting word flags (held rows pending) ≡ plain_word c waiting word (held rows pending)
short_plain c again none waiting word None rows pending e = refl
short_plain c again none waiting word (Some flags) rows pending e = ap (λ (b : Held × Outcome). after_flag c waiting word b.0 b.1) (bundle_plain c again none flags rows pending e)

-- ---- one word

abbrev pub dashes : Text
dashes = 45 ∷ 45 ∷ []

abbrev pub at : List Row → Option (Text × List Text) → Waiting → ℕ → Walk
at rows pending waiting position = record { held = held rows pending; waiting = waiting; position = position; is_trailing = false; stopped = None }

-- a word that isn't refused is a long option of the command, or plain
pub data Turned (s : Shape) (names : Names) (w : Walk) (word : Text) : Type 0 where
  long : (p : Text × Option Text) → IsLong word p → long_fault s.rules s.args_override_self (arg_by_long s.rules p.0) p.1 w.held ≡ []
      → walked s.rules names w word ≡ after_step s.rules word w (long_word s.rules w.waiting word p.0 p.1 w.held).0 (long_word s.rules w.waiting word p.0 p.1 w.held).1 → Turned s names w word
  other : step_fault s w.position (plain_word s.rules w.waiting word w.held).0 (plain_word s.rules w.waiting word w.held).1 ≡ []
      → walked s.rules names w word ≡ after_step s.rules word w (plain_word s.rules w.waiting word w.held).0 (plain_word s.rules w.waiting word w.held).1 → Turned s names w word

turned-at : (s : Shape) → HasNoShorts s.rules → (names : Names) (rows : List Row) (pending : Option (Text × List Text)) (waiting : Waiting) (position : ℕ) (word : Text) (l : Option (Text × Option Text)) → long_of word ≡ l
    → or_else (flag_word_fault s.rules s.args_override_self l word (held rows pending)) (step_fault s position (long_or_other s.rules waiting word l (held rows pending)).0 (long_or_other s.rules waiting word l (held rows pending)).1) ≡ []
    → walked s.rules names (at rows pending waiting position) word ≡ after_step s.rules word (at rows pending waiting position) (long_or_other s.rules waiting word l (held rows pending)).0 (long_or_other s.rules waiting word l (held rows pending)).1
    → Turned s names (at rows pending waiting position) word
turned-at s none names rows pending waiting position word (Some p) is e goes = long p (long_is word p is) (both_empty _ _ e).0 goes
turned-at s none names rows pending waiting position word None is e goes =
    let parts = both_empty _ _ e in
    let plain_is = short_plain s.rules s.args_override_self none waiting word (short_of word) rows pending parts.0 in
    other (rw plain_is at parts.1) (rw plain_is at goes)

pub turned : (s : Shape) → HasNoShorts s.rules → (names : Names) (rows : List Row) (pending : Option (Text × List Text)) (waiting : Waiting) (position : ℕ) (word : Text)
    → subcommand_met names waiting word ≡ None → bytes_eq word dashes ≡ false → turn_fault s names (at rows pending waiting position) word ≡ [] → Turned s names (at rows pending waiting position) word
unfolding walked
turned s none names rows pending waiting position word unmet undashed e =
    turned-at s none names rows pending waiting position word (long_of word) refl (rw (unmet, undashed) at e) (rw (unmet, undashed) refl)

-- ---- the words of a command

-- the words from here on aren't refused
pub record Takes (s : Shape) (w : Walk) (words : List Text) : Type 0 where
  pub walks : walk_fault s [] w words ≡ []
  pub settles : settle_fault s.rules s.args_override_self (fold (walked s.rules []) w words).held ≡ []

first : (s : Shape) (w : Walk) (word : Text) (words : List Text) → Takes s w (word ∷ words) → turn_fault s [] w word ≡ []
unfolding walk_fault
first s w word words takes = (both_empty _ _ takes.walks).0

then_takes : (s : Shape) (w : Walk) (word : Text) (words : List Text) → Takes s w (word ∷ words) → Takes s (walked s.rules [] w word) words
unfolding walk_fault
then_takes s w word words takes = record { walks = (both_empty _ _ takes.walks).1; settles = takes.settles }

abbrev pub HasDashes : List Text → Bool
HasDashes = list_any (λ word. bytes_eq word dashes)

pub neither : (a b : Bool) → (a || b) ≡ false → (a ≡ false) × (b ≡ false)
neither false b e = (refl, e)
neither true b e = absurd cc

abbrev pub leaf : Text → List Rule → Shape
leaf name rules = record (new_shape name) {
  rules = rules;
  no_binary_name = true;
  disable_help_flag = true;
  disable_help_subcommand = true;
  disable_version_flag = true;
  is_built = true;
}

-- a command without options takes no word
pub no_words : (name : Text) (words : List Text) → HasDashes words ≡ false → Takes (leaf name []) (at [] None idle 1) words → words ≡ []
no_words name [] undashed takes = refl
no_words name (word ∷ words) undashed takes =
    elim (turned (leaf name []) (λ x. refl) [] [] None idle 1 word refl (neither _ _ undashed).0 (first (leaf name []) (at [] None idle 1) word words takes)) [
      | long p is fault goes ↦ absurd cc
      | other fault goes ↦ absurd cc
    ]

-- ---- `init`

abbrev pub secret_id : Text
secret_id = codes "secret"

abbrev pub secret_rule : Rule
secret_rule = record (new_rule secret_id) { long = Some secret_id; action = Some Set; range = Some (record { start_inclusive = 1; end_inclusive = 1 }); parser = Some vp.String }

abbrev pub init_leaf : Shape
init_leaf = leaf (codes "init") (secret_rule ∷ [])

abbrev pub secret_row : Text → Row
secret_row v = record { id = secret_id; values = v ∷ []; count = None; source = Some CommandLine; reading = reading.AsWritten }

abbrev pub awaited : Option (Text × List Text)
awaited = Some (secret_id, [])

abbrev pub given : Text → Option (Text × List Text)
given v = Some (secret_id, v ∷ [])

-- the word is the option, alone or with its value, or plain
pub data InitTurned (w : Walk) (word : Text) : Type 0 where
  alone : word ≡ codes "--secret" → settle_fault init_leaf.rules false w.held ≡ [] → walked init_leaf.rules [] w word ≡ record w { held = record (settled init_leaf.rules w.held) { pending = awaited }; waiting = option secret_id } → InitTurned w word
  joined : (v : Text) → word ≡ codes "--secret=" ++ v → react_fault init_leaf.rules false secret_rule (v ∷ []) w.held ≡ [] → walked init_leaf.rules [] w word ≡ record w { held = reacted init_leaf.rules secret_rule (v ∷ []) w.held; waiting = idle } → InitTurned w word
  other : step_fault init_leaf w.position (plain_word init_leaf.rules w.waiting word w.held).0 (plain_word init_leaf.rules w.waiting word w.held).1 ≡ []
      → walked init_leaf.rules [] w word ≡ after_step init_leaf.rules word w (plain_word init_leaf.rules w.waiting word w.held).0 (plain_word init_leaf.rules w.waiting word w.held).1 → InitTurned w word

pub data BySecret (name : Text) : Type 0 where
  unknown : arg_by_long init_leaf.rules name ≡ None → BySecret name
  known : name ≡ secret_id → arg_by_long init_leaf.rules name ≡ Some secret_rule → BySecret name

by_secret : (name : Text) → BySecret name
by_secret name = go (bytes_eq secret_id name) refl
  where
    go : (b : Bool) → bytes_eq secret_id name ≡ b → BySecret name
    go true e = known (sym ((bytes_eq-Decides secret_id name).0 e)) (rw e refl)
    go false e = unknown (rw e refl)

init_long : (w : Walk) (word : Text) (p : Text × Option Text) → IsLong word p → BySecret p.0 → long_fault init_leaf.rules false (arg_by_long init_leaf.rules p.0) p.1 w.held ≡ []
    → walked init_leaf.rules [] w word ≡ after_step init_leaf.rules word w (long_word init_leaf.rules w.waiting word p.0 p.1 w.held).0 (long_word init_leaf.rules w.waiting word p.0 p.1 w.held).1 → InitTurned w word
init_long w word p is (unknown none) fault goes = let bad = rw none at fault in absurd cc
init_long w word p (alone_word is nothing) (known name found) fault goes =
    alone (is ∙ ap (λ (n : Text). 45 ∷ 45 ∷ n) name) (rw (found, nothing) at fault) (rw (found, nothing) at goes)
init_long w word p (joined_word v is value) (known name found) fault goes =
    joined v (is ∙ ap (λ (n : Text). 45 ∷ 45 ∷ (n ++ 61 ∷ v)) name) (rw (found, value) at fault) (rw (found, value) at goes)

init_turned : (rows : List Row) (pending : Option (Text × List Text)) (waiting : Waiting) (word : Text) → subcommand_met [] waiting word ≡ None → bytes_eq word dashes ≡ false
    → turn_fault init_leaf [] (at rows pending waiting 1) word ≡ [] → InitTurned (at rows pending waiting 1) word
init_turned rows pending waiting word unmet undashed e = elim (turned init_leaf (λ x. refl) [] rows pending waiting 1 word unmet undashed e) [
  | long p is fault goes ↦ init_long (at rows pending waiting 1) word p is (by_secret p.0) fault goes
  | other fault goes ↦ other fault goes
]

init_twice : (v u : Text) (words : List Text) → HasDashes words ≡ false → Takes init_leaf (at (secret_row v ∷ []) (given u) idle 1) words → ⊥
init_twice v u [] undashed takes = let bad = takes.settles in cc
init_twice v u (word ∷ words) undashed takes =
    elim (init_turned (secret_row v ∷ []) (given u) idle word refl (neither _ _ undashed).0 (first init_leaf (at (secret_row v ∷ []) (given u) idle 1) word words takes)) [
      | alone is fault goes ↦ cc
      | joined x is fault goes ↦ cc
      | other fault goes ↦ cc
    ]

init_again : (v : Text) (words : List Text) → HasDashes words ≡ false → Takes init_leaf (at (secret_row v ∷ []) awaited (option secret_id) 1) words → ⊥
init_again v [] undashed takes = let bad = takes.settles in cc
init_again v (word ∷ words) undashed takes =
    let w = at (secret_row v ∷ []) awaited (option secret_id) 1 in
    let later = then_takes init_leaf w word words takes in
    elim (init_turned (secret_row v ∷ []) awaited (option secret_id) word refl (neither _ _ undashed).0 (first init_leaf w word words takes)) [
      | alone is fault goes ↦ cc
      | joined x is fault goes ↦ cc
      | other fault goes ↦ init_twice v word words (neither _ _ undashed).1 (rw goes at later)
    ]

-- behind a whole secret no word stands
init_ends : (v : Text) (pending : Option (Text × List Text)) → (rows : List Row) → (words : List Text) → HasDashes words ≡ false → Takes init_leaf (at rows pending idle 1) words
    → settled_rows init_leaf.rules pending rows ≡ secret_row v ∷ [] → (react : (x : Text) → react_fault init_leaf.rules false secret_rule (x ∷ []) (held rows pending) ≡ [] → ⊥) → words ≡ []
init_ends v pending rows [] undashed takes whole twice = refl
init_ends v pending rows (word ∷ words) undashed takes whole twice =
    let w = at rows pending idle 1 in
    let later = then_takes init_leaf w word words takes in
    elim (init_turned rows pending idle word refl (neither _ _ undashed).0 (first init_leaf w word words takes)) [
      | alone is fault goes ↦ absurd (init_again v words (neither _ _ undashed).1 (rw (goes, whole) at later))
      | joined x is fault goes ↦ absurd (twice x fault)
      | other fault goes ↦ absurd cc
    ]

-- the words behind `init`
pub data InitWords (words : List Text) : Type 0 where
  bare : words ≡ [] → InitWords words
  split : (v : Text) → words ≡ codes "--secret" ∷ v ∷ [] → fold (walked init_leaf.rules []) (at [] None idle 1) words ≡ at [] (given v) idle 1 → InitWords words
  whole : (v : Text) → words ≡ (codes "--secret=" ++ v) ∷ [] → fold (walked init_leaf.rules []) (at [] None idle 1) words ≡ at (secret_row v ∷ []) None idle 1 → InitWords words

init_value : (front : Text) (words : List Text) → front ≡ codes "--secret" → HasDashes words ≡ false → Takes init_leaf (at [] awaited (option secret_id) 1) words
    → walked init_leaf.rules [] (at [] None idle 1) front ≡ at [] awaited (option secret_id) 1 → InitWords (front ∷ words)
init_value front [] front_is undashed takes goes = let bad = takes.settles in absurd cc
init_value front (word ∷ words) front_is undashed takes goes =
    let w = at [] awaited (option secret_id) 1 in
    let later = then_takes init_leaf w word words takes in
    elim (init_turned [] awaited (option secret_id) word refl (neither _ _ undashed).0 (first init_leaf w word words takes)) [
      | alone is fault steps ↦ absurd cc
      | joined x is fault steps ↦ absurd cc
      | other fault steps ↦
          let ends : words ≡ [] = init_ends word (given word) [] words (neither _ _ undashed).1 (rw steps at later) refl (λ x e. cc) in
          split word (rw (front_is, ends) refl) (rw (ends, goes, steps) refl)
    ]

pub init_words : (words : List Text) → HasDashes words ≡ false → Takes init_leaf (at [] None idle 1) words → InitWords words
init_words [] undashed takes = bare refl
init_words (word ∷ words) undashed takes =
    let w = at [] None idle 1 in
    let later = then_takes init_leaf w word words takes in
    elim (init_turned [] None idle word refl (neither _ _ undashed).0 (first init_leaf w word words takes)) [
      | alone is fault goes ↦ init_value word words is (neither _ _ undashed).1 (rw goes at later) goes
      | joined v is fault goes ↦
          let ends : words ≡ [] = init_ends v None (secret_row v ∷ []) words (neither _ _ undashed).1 (rw goes at later) refl (λ x e. cc) in
          whole v (rw (is, ends) refl) (rw (ends, goes) refl)
      | other fault goes ↦ absurd cc
    ]

-- ---- `sample`

abbrev pub rounds_id : Text
rounds_id = codes "rounds"

abbrev pub rounds_rule : Rule
rounds_rule = record (new_rule rounds_id) { required = true; index = Some 1; action = Some Set; range = Some (record { start_inclusive = 1; end_inclusive = 1 }); parser = Some vp.String }

abbrev pub sample_leaf : Shape
sample_leaf = leaf (codes "sample") (rounds_rule ∷ [])

abbrev pub rounds_row : Text → Row
rounds_row v = record { id = rounds_id; values = v ∷ []; count = None; source = Some CommandLine; reading = reading.AsWritten }

abbrev pub number : Text → Option (Text × List Text)
number v = Some (rounds_id, v ∷ [])

sample_ends : (v : Text) (words : List Text) → HasDashes words ≡ false → Takes sample_leaf (at [] (number v) idle 2) words → words ≡ []
sample_ends v [] undashed takes = refl
sample_ends v (word ∷ words) undashed takes =
    elim (turned sample_leaf (λ x. refl) [] [] (number v) idle 2 word refl (neither _ _ undashed).0 (first sample_leaf (at [] (number v) idle 2) word words takes)) [
      | long p is fault goes ↦ absurd cc
      | other fault goes ↦ absurd cc
    ]

-- the words behind `sample`
pub data SampleWords (words : List Text) : Type 0 where
  nothing : words ≡ [] → SampleWords words
  counts : (v : Text) → words ≡ v ∷ [] → fold (walked sample_leaf.rules []) (at [] None idle 1) words ≡ at [] (number v) idle 2 → SampleWords words

pub sample_words : (words : List Text) → HasDashes words ≡ false → Takes sample_leaf (at [] None idle 1) words → SampleWords words
sample_words [] undashed takes = nothing refl
sample_words (word ∷ words) undashed takes =
    let w = at [] None idle 1 in
    let later = then_takes sample_leaf w word words takes in
    elim (turned sample_leaf (λ x. refl) [] [] None idle 1 word refl (neither _ _ undashed).0 (first sample_leaf w word words takes)) [
      | long p is fault goes ↦ absurd cc
      | other fault goes ↦
          let ends : words ≡ [] = sample_ends word words (neither _ _ undashed).1 (rw goes at later) in
          counts word (rw ends refl) (rw (ends, goes) refl)
    ]

pub takes_level : (s : Shape) (words : List Text) → level_fault s [] nothing_held words false [] ≡ [] → Takes s (at [] None idle 1) words
takes_level s words e =
    let walks = both_empty _ _ e in
    let settles = both_empty _ _ walks.1 in
    record { walks = walks.0; settles = settles.0 }
