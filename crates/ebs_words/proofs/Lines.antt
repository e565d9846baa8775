-- What `clap` makes of a command line of which no word is `--`.
use Rattle.std.proofs.Common.{◌≡◌, ◌⊎◌, ◌∙◌, ◌++◌, ℕ, Bool, List, [], ◌∷◌, Option, Some, None, true, false, inl, inr, refl, sym, ap, subst, get_or, arith, codes, append-nil, append_assoc}
use Rattle.std.specs.Prelude.{find}
use Rattle.std.specs.List.{fold}
use Rattle.std.specs.Str.{bytes_eq}
use Rattle.std.proofs.lemmas.Slice.Eq.{bytes_eq-Decides}
use Rattle.clap.specs.Simple.{Shape, built, label_of, names_of, subcommand_of}
use Rattle.clap.specs.Walk.{Names, Row, Rule, Text, Walk, answers_to, finished, first_of, idle, nothing_held, rows_after, subcommand_met, walk_from, walked}
use Rattle.clap.specs.Faults.{entered_fault, fault_of, level_fault, turn_fault, walk_fault}
use Rattle.clap.proofs.OnLiterals.{clap_on_literals}
use Rattle.ebs_words.specs.inner.Grammar.{grammar_app}
use Rattle.ebs_words.specs.declared.words.Command.{Command}
use Rattle.ebs_words.specs.declared.words.Command.TheVariants.{Session, Init, Tick, Collect, Usage, Check, Sample}
use Rattle.ebs_words.specs.Spellings.{IsSpelled}
use Rattle.ebs_words.specs.inner.Found.{IsFound, IsSecretIn, IsRoundsIn}
use Rattle.ebs_words.proofs.Leaves.{HasDashes, SampleWords, InitWords, bare, both_empty, counts, init_leaf, init_words, leaf, long, neither, no_words, nothing, other, rounds_row, sample_leaf, secret_row, sample_words, split, takes_level, turned, whole}

abbrev pub top_names : Names
top_names = names_of (built grammar_app)

pub data IsName (word : Text) : Type 0 where
  session : word ≡ codes "session" → IsName word
  init : word ≡ codes "init" → IsName word
  tick : word ≡ codes "tick" → IsName word
  collect : word ≡ codes "collect" → IsName word
  usage : word ≡ codes "usage" → IsName word
  check : word ≡ codes "check" → IsName word
  sample : word ≡ codes "sample" → IsName word

same : (name word : Text) → (word ≡ name) ⊎ (bytes_eq name word ≡ false)
same name word = go (bytes_eq name word) refl
  where
    go : (b : Bool) → bytes_eq name word ≡ b → (word ≡ name) ⊎ (bytes_eq name word ≡ false)
    go true e = inl (sym ((bytes_eq-Decides name word).0 e))
    go false e = inr e

met : (word : Text) → (subcommand_met top_names idle word ≡ None) ⊎ IsName word
met word = elim (same (codes "session") word) [
  | inl is ↦ inr (session is)
  | inr one ↦ elim (same (codes "init") word) [
    | inl is ↦ inr (init is)
    | inr two ↦ elim (same (codes "tick") word) [
      | inl is ↦ inr (tick is)
      | inr three ↦ elim (same (codes "collect") word) [
        | inl is ↦ inr (collect is)
        | inr four ↦ elim (same (codes "usage") word) [
          | inl is ↦ inr (usage is)
          | inr five ↦ elim (same (codes "check") word) [
            | inl is ↦ inr (check is)
            | inr six ↦ elim (same (codes "sample") word) [
              | inl is ↦ inr (sample is)
              | inr seven ↦ inl (rw (one, two, three, four, five, six, seven) refl)
            ]
          ]
        ]
      ]
    ]
  ]
]

-- ---- the words behind a command's name are that command's

pub stopped_at : (c : List Rule) (names : Names) (w : Walk) (p : Text × List Text) (words : List Text) → fold (walked c names) (record w { stopped = Some p }) words ≡ record w { stopped = Some (p.0, p.1 ++ words) }
unfolding walked
stopped_at c names w p [] = rw append-nil refl
stopped_at c names w p (word ∷ words) =
    stopped_at c names w (p.0, p.1 ++ word ∷ []) words ∙ ap (λ (l : List Text). record w { stopped = Some (p.0, l) }) (append_assoc p.1 (word ∷ []) words)

-- the command of this name takes them, and its matches are found
pub record Enters (name : Text) (words : List Text) (s : Shape) : Type 0 where
  pub level : level_fault s [] nothing_held words false [] ≡ []
  pub found : subcommand_of grammar_app (name ∷ words) ≡ Some (s.name, rows_after s.rules [] words)

enters : (name : Text) (words : List Text) (s : Shape) → walked [] top_names (walk_from nothing_held) name ≡ record (walk_from nothing_held) { stopped = Some (name, []) }
    → find (λ x. answers_to name (label_of x)) (built grammar_app).subs ≡ Some s → fault_of grammar_app (name ∷ words) ≡ [] → Enters name words s
enters name words s stops is e =
    let stop : (fold (walked [] top_names) (walked [] top_names (walk_from nothing_held) name) words).stopped ≡ Some (name, words) =
    ap (λ (w : Walk). (fold (walked [] top_names) w words).stopped) stops ∙ ap (λ (w : Walk). w.stopped) (stopped_at [] top_names (walk_from nothing_held) (name, []) words) in
    let below : entered_fault (built grammar_app) (fold (walked [] top_names) (walked [] top_names (walk_from nothing_held) name) words).stopped ≡ [] = (both_empty _ _ (both_empty _ _ e).1).0 in
    record { level = rw (stop, is) at below; found = rw (stop, is) refl }

-- a first word that is no command's name is refused
first_named : (word : Text) (words : List Text) → HasDashes (word ∷ words) ≡ false → fault_of grammar_app (word ∷ words) ≡ [] → IsName word
unfolding walk_fault
first_named word words undashed e =
    let turn : turn_fault (built grammar_app).top top_names (walk_from nothing_held) word ≡ [] = (both_empty _ _ (both_empty _ _ e).0).0 in
    elim (met word) [
      | inr is ↦ is
      | inl unmet ↦ elim (turned (built grammar_app).top (λ x. refl) top_names [] None idle 1 word unmet (neither _ _ undashed).0 turn) [
        | long p is fault goes ↦ absurd cc
        | other fault goes ↦ absurd cc
      ]
    ]

none_refused : fault_of grammar_app [] ≡ [] → ⊥
unfolding clap_on_literals
none_refused e = cc

none_sampled : level_fault sample_leaf [] nothing_held [] false [] ≡ [] → ⊥
unfolding clap_on_literals
none_sampled e = cc

-- ---- a command that is found is spelled

-- the values, and the second byte of a name, by which the names differ
abbrev rows_in : Option (Text × List Row) → List Row
rows_in None = []
rows_in (Some p) = p.1

abbrev second : Option (Text × List Row) → ℕ
second None = 0
second (Some p) = get_or p.0 1 0

of_session : (c : Command) (rows : List Row) → IsFound c (Some (codes "session", rows)) → c ≡ Session
of_session Session rows found = refl
of_session (Init secret) rows found = let bad : ◌≡◌ {A = ℕ} 101 110 = ap second found.1 in absurd (omega arith)
of_session Tick rows found = let bad : ◌≡◌ {A = ℕ} 101 105 = ap second found.1 in absurd (omega arith)
of_session Collect rows found = let bad : ◌≡◌ {A = ℕ} 101 111 = ap second found.1 in absurd (omega arith)
of_session Usage rows found = let bad : ◌≡◌ {A = ℕ} 101 115 = ap second found.1 in absurd (omega arith)
of_session Check rows found = let bad : ◌≡◌ {A = ℕ} 101 104 = ap second found.1 in absurd (omega arith)
of_session (Sample rounds) rows found = let bad : ◌≡◌ {A = ℕ} 101 97 = ap second found.1 in absurd (omega arith)

of_tick : (c : Command) (rows : List Row) → IsFound c (Some (codes "tick", rows)) → c ≡ Tick
of_tick Session rows found = let bad : ◌≡◌ {A = ℕ} 105 101 = ap second found.1 in absurd (omega arith)
of_tick (Init secret) rows found = let bad : ◌≡◌ {A = ℕ} 105 110 = ap second found.1 in absurd (omega arith)
of_tick Tick rows found = refl
of_tick Collect rows found = let bad : ◌≡◌ {A = ℕ} 105 111 = ap second found.1 in absurd (omega arith)
of_tick Usage rows found = let bad : ◌≡◌ {A = ℕ} 105 115 = ap second found.1 in absurd (omega arith)
of_tick Check rows found = let bad : ◌≡◌ {A = ℕ} 105 104 = ap second found.1 in absurd (omega arith)
of_tick (Sample rounds) rows found = let bad : ◌≡◌ {A = ℕ} 105 97 = ap second found.1 in absurd (omega arith)

of_collect : (c : Command) (rows : List Row) → IsFound c (Some (codes "collect", rows)) → c ≡ Collect
of_collect Session rows found = let bad : ◌≡◌ {A = ℕ} 111 101 = ap second found.1 in absurd (omega arith)
of_collect (Init secret) rows found = let bad : ◌≡◌ {A = ℕ} 111 110 = ap second found.1 in absurd (omega arith)
of_collect Tick rows found = let bad : ◌≡◌ {A = ℕ} 111 105 = ap second found.1 in absurd (omega arith)
of_collect Collect rows found = refl
of_collect Usage rows found = let bad : ◌≡◌ {A = ℕ} 111 115 = ap second found.1 in absurd (omega arith)
of_collect Check rows found = let bad : ◌≡◌ {A = ℕ} 111 104 = ap second found.1 in absurd (omega arith)
of_collect (Sample rounds) rows found = let bad : ◌≡◌ {A = ℕ} 111 97 = ap second found.1 in absurd (omega arith)

of_usage : (c : Command) (rows : List Row) → IsFound c (Some (codes "usage", rows)) → c ≡ Usage
of_usage Session rows found = let bad : ◌≡◌ {A = ℕ} 115 101 = ap second found.1 in absurd (omega arith)
of_usage (Init secret) rows found = let bad : ◌≡◌ {A = ℕ} 115 110 = ap second found.1 in absurd (omega arith)
of_usage Tick rows found = let bad : ◌≡◌ {A = ℕ} 115 105 = ap second found.1 in absurd (omega arith)
of_usage Collect rows found = let bad : ◌≡◌ {A = ℕ} 115 111 = ap second found.1 in absurd (omega arith)
of_usage Usage rows found = refl
of_usage Check rows found = let bad : ◌≡◌ {A = ℕ} 115 104 = ap second found.1 in absurd (omega arith)
of_usage (Sample rounds) rows found = let bad : ◌≡◌ {A = ℕ} 115 97 = ap second found.1 in absurd (omega arith)

of_check : (c : Command) (rows : List Row) → IsFound c (Some (codes "check", rows)) → c ≡ Check
of_check Session rows found = let bad : ◌≡◌ {A = ℕ} 104 101 = ap second found.1 in absurd (omega arith)
of_check (Init secret) rows found = let bad : ◌≡◌ {A = ℕ} 104 110 = ap second found.1 in absurd (omega arith)
of_check Tick rows found = let bad : ◌≡◌ {A = ℕ} 104 105 = ap second found.1 in absurd (omega arith)
of_check Collect rows found = let bad : ◌≡◌ {A = ℕ} 104 111 = ap second found.1 in absurd (omega arith)
of_check Usage rows found = let bad : ◌≡◌ {A = ℕ} 104 115 = ap second found.1 in absurd (omega arith)
of_check Check rows found = refl
of_check (Sample rounds) rows found = let bad : ◌≡◌ {A = ℕ} 104 97 = ap second found.1 in absurd (omega arith)

of_init : (c : Command) (rows : List Row) → IsFound c (Some (codes "init", rows)) → (secret : List ℕ) × (c ≡ Init secret) × IsSecretIn (first_of (codes "secret") rows) secret
of_init Session rows found = let bad : ◌≡◌ {A = ℕ} 110 101 = ap second found.1 in absurd (omega arith)
of_init (Init secret) rows found = let same_rows : found.0 ≡ rows = sym (ap rows_in found.1) in (secret, refl, rw same_rows at found.2)
of_init Tick rows found = let bad : ◌≡◌ {A = ℕ} 110 105 = ap second found.1 in absurd (omega arith)
of_init Collect rows found = let bad : ◌≡◌ {A = ℕ} 110 111 = ap second found.1 in absurd (omega arith)
of_init Usage rows found = let bad : ◌≡◌ {A = ℕ} 110 115 = ap second found.1 in absurd (omega arith)
of_init Check rows found = let bad : ◌≡◌ {A = ℕ} 110 104 = ap second found.1 in absurd (omega arith)
of_init (Sample rounds) rows found = let bad : ◌≡◌ {A = ℕ} 110 97 = ap second found.1 in absurd (omega arith)

of_sample : (c : Command) (rows : List Row) → IsFound c (Some (codes "sample", rows)) → (rounds : ℕ) × (c ≡ Sample rounds) × IsRoundsIn (first_of (codes "rounds") rows) rounds
of_sample Session rows found = let bad : ◌≡◌ {A = ℕ} 97 101 = ap second found.1 in absurd (omega arith)
of_sample (Init secret) rows found = let bad : ◌≡◌ {A = ℕ} 97 110 = ap second found.1 in absurd (omega arith)
of_sample Tick rows found = let bad : ◌≡◌ {A = ℕ} 97 105 = ap second found.1 in absurd (omega arith)
of_sample Collect rows found = let bad : ◌≡◌ {A = ℕ} 97 111 = ap second found.1 in absurd (omega arith)
of_sample Usage rows found = let bad : ◌≡◌ {A = ℕ} 97 115 = ap second found.1 in absurd (omega arith)
of_sample Check rows found = let bad : ◌≡◌ {A = ℕ} 97 104 = ap second found.1 in absurd (omega arith)
of_sample (Sample rounds) rows found = let same_rows : found.0 ≡ rows = sym (ap rows_in found.1) in (rounds, refl, rw same_rows at found.2)

by_init : (c : Command) (words : List Text) → InitWords words → IsFound c (Some (codes "init", rows_after init_leaf.rules [] words)) → IsSpelled c (codes "init" ∷ words)
unfolding walked
by_init c words (bare is) found =
    let in_it : IsFound c (Some (codes "init", [])) = rw is at found in
    let asks = of_init c [] in_it in
    rw (asks.1, is) (inl (refl, asks.2))
by_init c words (split v is walks) found =
    let in_it : IsFound c (Some (codes "init", secret_row v ∷ [])) = subst (λ (w : Walk). IsFound c (Some (codes "init", finished init_leaf.rules w.held))) walks found in
    let asks = of_init c (secret_row v ∷ []) in_it in
    rw (asks.1, is) (inr (v, inl refl, asks.2))
by_init c words (whole v is walks) found =
    let in_it : IsFound c (Some (codes "init", secret_row v ∷ [])) = subst (λ (w : Walk). IsFound c (Some (codes "init", finished init_leaf.rules w.held))) walks found in
    let asks = of_init c (secret_row v ∷ []) in_it in
    rw (asks.1, is) (inr (v, inr refl, asks.2))

by_sample : (c : Command) (words : List Text) → level_fault sample_leaf [] nothing_held words false [] ≡ [] → SampleWords words → IsFound c (Some (codes "sample", rows_after sample_leaf.rules [] words)) → IsSpelled c (codes "sample" ∷ words)
by_sample c words level (nothing is) found = absurd (none_sampled (rw is at level))
by_sample c words level (counts v is walks) found =
    let in_it : IsFound c (Some (codes "sample", rounds_row v ∷ [])) = subst (λ (w : Walk). IsFound c (Some (codes "sample", finished sample_leaf.rules w.held))) walks found in
    let asks = of_sample c (rounds_row v ∷ []) in_it in
    rw (asks.1, is) (v, refl, asks.2)

by_name : (c : Command) (word : Text) (words : List Text) → HasDashes words ≡ false → fault_of grammar_app (word ∷ words) ≡ [] → IsName word → IsFound c (subcommand_of grammar_app (word ∷ words)) → IsSpelled c (word ∷ words)
unfolding walked
by_name c word words undashed e (session is) found =
    let in_leaf = enters (codes "session") words (leaf (codes "session") []) refl refl (rw is at e) in
    let ends = no_words (codes "session") words undashed (takes_level _ words in_leaf.level) in
    let asks = of_session c _ (rw (is, in_leaf.found) at found) in
    rw (asks, is, ends) refl
by_name c word words undashed e (tick is) found =
    let in_leaf = enters (codes "tick") words (leaf (codes "tick") []) refl refl (rw is at e) in
    let ends = no_words (codes "tick") words undashed (takes_level _ words in_leaf.level) in
    let asks = of_tick c _ (rw (is, in_leaf.found) at found) in
    rw (asks, is, ends) refl
by_name c word words undashed e (collect is) found =
    let in_leaf = enters (codes "collect") words (leaf (codes "collect") []) refl refl (rw is at e) in
    let ends = no_words (codes "collect") words undashed (takes_level _ words in_leaf.level) in
    let asks = of_collect c _ (rw (is, in_leaf.found) at found) in
    rw (asks, is, ends) refl
by_name c word words undashed e (usage is) found =
    let in_leaf = enters (codes "usage") words (leaf (codes "usage") []) refl refl (rw is at e) in
    let ends = no_words (codes "usage") words undashed (takes_level _ words in_leaf.level) in
    let asks = of_usage c _ (rw (is, in_leaf.found) at found) in
    rw (asks, is, ends) refl
by_name c word words undashed e (check is) found =
    let in_leaf = enters (codes "check") words (leaf (codes "check") []) refl refl (rw is at e) in
    let ends = no_words (codes "check") words undashed (takes_level _ words in_leaf.level) in
    let asks = of_check c _ (rw (is, in_leaf.found) at found) in
    rw (asks, is, ends) refl
by_name c word words undashed e (init is) found =
    let in_leaf = enters (codes "init") words init_leaf refl refl (rw is at e) in
    let behind = init_words words undashed (takes_level init_leaf words in_leaf.level) in
    rw is (by_init c words behind (rw (is, in_leaf.found) at found))
by_name c word words undashed e (sample is) found =
    let in_leaf = enters (codes "sample") words sample_leaf refl refl (rw is at e) in
    let behind = sample_words words undashed (takes_level sample_leaf words in_leaf.level) in
    rw is (by_sample c words in_leaf.level behind (rw (is, in_leaf.found) at found))

pub found_is_spelled : (c : Command) (words : List Text) → HasDashes words ≡ false → fault_of grammar_app words ≡ [] → IsFound c (subcommand_of grammar_app words) → IsSpelled c words
found_is_spelled c [] undashed e found = absurd (none_refused e)
found_is_spelled c (word ∷ words) undashed e found = by_name c word words (neither _ _ undashed).1 e (first_named word words undashed e) found
