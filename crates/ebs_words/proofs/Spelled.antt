-- Words that spell a command are taken by `clap`, and it finds the command.
use Rattle.std.proofs.Common.{◌≡◌, ◌<◌, ◌==◌, ◌∙◌, ◌++◌, ℕ, Bool, List, [], ◌∷◌, Option, Some, None, true, false, inl, inr, get_or, refl, ap, ap₂, codes, arith}
use Rattle.std.specs.List.{list_all}
use Rattle.std.proofs.lemmas.Bool.Decides.{nat_tests}
use Rattle.std.proofs.lemmas.Fmt.{first_decimal}
use Rattle.std.specs.Prelude.{is_some}
use Rattle.std.specs.List.{fold}
use Rattle.std.specs.Str.{bytes_eq}
use Rattle.clap.specs.Lexer.{long_of, short_of}
use Rattle.clap.specs.Kinds.{Kinds, or_else}
use Rattle.clap.specs.Simple.{Shape, built, entered, subcommand_of}
use Rattle.clap.specs.Walk.{Row, Rule, Text, Waiting, Walk, after_step, finished, idle, nothing_held, option, plain_word, settled, subcommand_met, walk_from, walked}
use Rattle.clap.specs.Faults.{check_fault, defaults_fault, entered_fault, fault_of, level_fault, settle_fault, step_fault, turn_fault, walk_fault}
use Rattle.clap.proofs.FaultLemmas.{stopped_fault}
use Rattle.ebs_words.proofs.Lines.{stopped_at, top_names}
use Rattle.clap.proofs.OnLiterals.{clap_on_literals}
use Rattle.ebs_words.specs.inner.Grammar.{grammar_app}
use Rattle.ebs_words.specs.declared.words.Command.{Command}
use Rattle.ebs_words.specs.declared.words.Command.TheVariants.{Session, Init, Tick, Collect, Usage, Check, Sample}
use Rattle.ebs_words.specs.Spellings.{IsSpelled, IsSecret, IsRounds, is_lower_digit}
use Rattle.ebs_words.specs.inner.Found.{IsFound}
use Rattle.ebs_words.proofs.Leaves.{HasDashes, at, awaited, dashes, given, held, init_leaf, number, sample_leaf, secret_id, secret_row}

-- the words are taken, and the command is found in them
pub record IsTaken (c : Command) (words : List Text) : Type 0 where
  pub undashed : HasDashes words ≡ false
  pub fault : fault_of grammar_app words ≡ []
  pub found : IsFound c (subcommand_of grammar_app words)

-- a text that begins with no hyphen
pub record Begins (text : Text) : Type 0 where
  pub byte : ℕ
  pub rest : Text
  pub is : text ≡ byte ∷ rest
  pub other : (byte == 45) ≡ false

digit_first : (x : ℕ) (xs : Text) → list_all is_lower_digit (x ∷ xs) ≡ true → (x == 45) ≡ false
digit_first x xs e = go (x == 45) refl
  where
    go : (b : Bool) → (x == 45) ≡ b → (x == 45) ≡ false
    go true same = let is : x ≡ 45 = grind (arith, nat_tests) in let bad : false ≡ true = rw is at e in absurd cc
    go false same = same

secret_begins : (text : Text) (secret : List ℕ) → IsSecret text secret → Begins text
secret_begins [] secret (long, digits, spells) = absurd cc
secret_begins (x ∷ xs) secret (long, digits, spells) = record { byte = x; rest = xs; is = refl; other = digit_first x xs digits }

above_first : (text : Text) → 48 < get_or text 0 0 → Begins text
above_first [] above = absurd (omega arith)
above_first (x ∷ xs) above = record { byte = x; rest = xs; is = refl; other = grind (arith, nat_tests) }

rounds_begin : (text : Text) (n : ℕ) → IsRounds text n → Begins text
rounds_begin text n (is, least, most) = above_first text (rw is (first_decimal n (omega arith) (omega arith)))

session_taken : IsTaken Session (codes "session" ∷ [])
unfolding clap_on_literals
session_taken = record { undashed = refl; fault = refl; found = ([], refl) }

tick_taken : IsTaken Tick (codes "tick" ∷ [])
unfolding clap_on_literals
tick_taken = record { undashed = refl; fault = refl; found = ([], refl) }

collect_taken : IsTaken Collect (codes "collect" ∷ [])
unfolding clap_on_literals
collect_taken = record { undashed = refl; fault = refl; found = ([], refl) }

usage_taken : IsTaken Usage (codes "usage" ∷ [])
unfolding clap_on_literals
usage_taken = record { undashed = refl; fault = refl; found = ([], refl) }

check_taken : IsTaken Check (codes "check" ∷ [])
unfolding clap_on_literals
check_taken = record { undashed = refl; fault = refl; found = ([], refl) }

bare_taken : (secret : List ℕ) → IsFound (Init secret) (Some (codes "init", [])) → IsTaken (Init secret) (codes "init" ∷ [])
unfolding clap_on_literals
bare_taken secret found = record { undashed = refl; fault = refl; found = found }

-- ---- a word that is no option

record Plain (word : Text) : Type 0 where
  undashed : bytes_eq word dashes ≡ false
  long : long_of word ≡ None
  short : short_of word ≡ None

plain : (text : Text) → Begins text → Plain text
plain text b = record {
  undashed = rw (b.is, b.other) refl;
  long = rw (b.is, b.other) refl;
  short = rw (b.is, b.other) refl;
}

plain_turn : (s : Shape) (rows : List Row) (pending : Option (Text × List Text)) (waiting : Waiting) (position : ℕ) (word : Text) → subcommand_met [] waiting word ≡ None → Plain word
    → turn_fault s [] (at rows pending waiting position) word ≡ step_fault s position (plain_word s.rules waiting word (held rows pending)).0 (plain_word s.rules waiting word (held rows pending)).1
plain_turn s rows pending waiting position word unmet is = rw (unmet, is.undashed, is.long, is.short) refl

plain_walked : (c : List Rule) (rows : List Row) (pending : Option (Text × List Text)) (waiting : Waiting) (position : ℕ) (word : Text) → subcommand_met [] waiting word ≡ None → Plain word
    → walked c [] (at rows pending waiting position) word ≡ after_step c word (at rows pending waiting position) (plain_word c waiting word (held rows pending)).0 (plain_word c waiting word (held rows pending)).1
unfolding walked
plain_walked c rows pending waiting position word unmet is = rw (unmet, is.undashed, is.long, is.short) refl

-- ---- a level, and the line above it

abbrev tail_fault : Shape → Walk → Kinds
tail_fault s w = or_else (settle_fault s.rules s.args_override_self w.held) (or_else (defaults_fault (settled s.rules w.held).rows s.rules) (check_fault s (finished s.rules w.held) false))

level_passes : (s : Shape) (words : List Text) (w : Walk) → walk_fault s [] (walk_from nothing_held) words ≡ [] → fold (walked s.rules []) (walk_from nothing_held) words ≡ w → tail_fault s w ≡ []
    → level_fault s [] nothing_held words false [] ≡ []
level_passes s words w walks goes ends = ap₂ or_else walks (ap (tail_fault s) goes ∙ ends)

abbrev line_tail : Walk → Kinds
line_tail w =
    let a = built grammar_app in
    or_else (entered_fault a w.stopped) (or_else (settle_fault a.top.rules false w.held) (or_else (defaults_fault (settled a.top.rules w.held).rows a.top.rules) (check_fault a.top (finished a.top.rules w.held) (is_some (entered a w.stopped)))))

line_passes : (name : Text) (words : List Text) → turn_fault (built grammar_app).top top_names (walk_from nothing_held) name ≡ [] → walked [] top_names (walk_from nothing_held) name ≡ record (walk_from nothing_held) { stopped = Some (name, []) }
    → line_tail (record (walk_from nothing_held) { stopped = Some (name, words) }) ≡ [] → fault_of grammar_app (name ∷ words) ≡ []
unfolding walk_fault
line_passes name words turn stops tail =
    let goes : fold (walked [] top_names) (walked [] top_names (walk_from nothing_held) name) words ≡ record (walk_from nothing_held) { stopped = Some (name, words) } =
    ap (λ (w : Walk). fold (walked [] top_names) w words) stops ∙ stopped_at [] top_names (walk_from nothing_held) (name, []) words in
    let behind : walk_fault (built grammar_app).top top_names (walked [] top_names (walk_from nothing_held) name) words ≡ [] =
    ap (λ (w : Walk). walk_fault (built grammar_app).top top_names w words) stops ∙ stopped_fault (built grammar_app).top top_names (walk_from nothing_held) (name, []) words in
    ap₂ or_else (ap₂ or_else turn behind) (ap line_tail goes ∙ tail)

line_found : (name : Text) (words : List Text) → walked [] top_names (walk_from nothing_held) name ≡ record (walk_from nothing_held) { stopped = Some (name, []) }
    → subcommand_of grammar_app (name ∷ words) ≡ entered (built grammar_app) (Some (name, words))
line_found name words stops =
    ap (λ (w : Walk). entered (built grammar_app) w.stopped) (ap (λ (w : Walk). fold (walked [] top_names) w words) stops ∙ stopped_at [] top_names (walk_from nothing_held) (name, []) words)

-- ---- `init` and `sample` with a word behind them

option_walked : walked init_leaf.rules [] (walk_from nothing_held) (codes "--secret") ≡ at [] awaited (option secret_id) 1
unfolding walked
option_walked = refl

option_taken : turn_fault init_leaf [] (walk_from nothing_held) (codes "--secret") ≡ []
unfolding clap_on_literals
option_taken = refl

split_walks : (text : Text) → Plain text → fold (walked init_leaf.rules []) (walk_from nothing_held) (codes "--secret" ∷ text ∷ []) ≡ at [] (given text) idle 1
split_walks text is =
    ap (λ (w : Walk). walked init_leaf.rules [] w text) option_walked ∙ plain_walked init_leaf.rules [] awaited (option secret_id) 1 text refl is

split_level : (text : Text) → Plain text → level_fault init_leaf [] nothing_held (codes "--secret" ∷ text ∷ []) false [] ≡ []
unfolding walk_fault defaults_fault
split_level text is =
    let behind : turn_fault init_leaf [] (walked init_leaf.rules [] (walk_from nothing_held) (codes "--secret")) text ≡ [] =
    ap (λ (w : Walk). turn_fault init_leaf [] w text) option_walked ∙ plain_turn init_leaf [] awaited (option secret_id) 1 text refl is in
    level_passes init_leaf (codes "--secret" ∷ text ∷ []) (at [] (given text) idle 1) (ap₂ or_else option_taken (ap₂ or_else behind refl)) (split_walks text is) refl

split_taken : (text : Text) (secret : List ℕ) → IsSecret text secret → IsTaken (Init secret) (codes "init" ∷ codes "--secret" ∷ text ∷ [])
unfolding walked defaults_fault
split_taken text secret spells =
    let is = plain text (secret_begins text secret spells) in
    record {
      undashed = rw is.undashed refl;
      fault = line_passes (codes "init") (codes "--secret" ∷ text ∷ []) refl refl (ap (λ (k : Kinds). or_else k []) (split_level text is));
      found = (
        finished init_leaf.rules (at [] (given text) idle 1).held,
        line_found (codes "init") (codes "--secret" ∷ text ∷ []) refl ∙ ap (λ (w : Walk). Some (codes "init", finished init_leaf.rules w.held)) (split_walks text is),
        spells,
      );
    }

joined_taken : (text : Text) (secret : List ℕ) → IsSecret text secret → IsTaken (Init secret) (codes "init" ∷ (codes "--secret=" ++ text) ∷ [])
unfolding clap_on_literals
joined_taken text secret spells = record { undashed = refl; fault = refl; found = (secret_row text ∷ [], refl, spells) }

sample_level : (text : Text) → Plain text → level_fault sample_leaf [] nothing_held (text ∷ []) false [] ≡ []
unfolding walk_fault defaults_fault
sample_level text is =
    level_passes sample_leaf (text ∷ []) (at [] (number text) idle 2) (ap₂ or_else (plain_turn sample_leaf [] None idle 1 text refl is) refl) (plain_walked sample_leaf.rules [] None idle 1 text refl is) refl

sample_taken : (text : Text) (n : ℕ) → IsRounds text n → IsTaken (Sample n) (codes "sample" ∷ text ∷ [])
unfolding walked defaults_fault
sample_taken text n spells =
    let is = plain text (rounds_begin text n spells) in
    record {
      undashed = rw is.undashed refl;
      fault = line_passes (codes "sample") (text ∷ []) refl refl (ap (λ (k : Kinds). or_else k []) (sample_level text is));
      found = (
        finished sample_leaf.rules (at [] (number text) idle 2).held,
        line_found (codes "sample") (text ∷ []) refl ∙ ap (λ (w : Walk). Some (codes "sample", finished sample_leaf.rules w.held)) (plain_walked sample_leaf.rules [] None idle 1 text refl is),
        spells,
      );
    }

pub spelled_is_taken : (c : Command) (words : List Text) → IsSpelled c words → IsTaken c words
spelled_is_taken Session words is = rw is session_taken
spelled_is_taken Tick words is = rw is tick_taken
spelled_is_taken Collect words is = rw is collect_taken
spelled_is_taken Usage words is = rw is usage_taken
spelled_is_taken Check words is = rw is check_taken
spelled_is_taken (Init secret) words (inl (is, zeros)) = rw is (bare_taken secret ([], refl, zeros))
spelled_is_taken (Init secret) words (inr (text, inl is, spells)) = rw is (split_taken text secret spells)
spelled_is_taken (Init secret) words (inr (text, inr is, spells)) = rw is (joined_taken text secret spells)
spelled_is_taken (Sample n) words (text, is, spells) = rw is (sample_taken text n spells)
