-- The command that is found is the one that is spelled.
use Rattle.std.proofs.Common.{◌≡◌, ◌↔◌, ◌∙◌, Bool, List, [], Some, None, Err, String, Global, inl, inr, map, string_bytes, true, false, codes, refl, sym, ap, nat_eq}
use Rattle.std.specs.List.{list_any}
use Rattle.std.specs.Cmp.Lexicographic.{pointwise}
use Rattle.std.specs.Str.{bytes_eq}
use Rattle.clap.specs.Words.{App, FailsBy, HasMatchesOf, fault_of, is_simple, is_simple_and_free, kind_of, subcommand_of, subcommand_rows_of}
use Rattle.clap.specs.declared.error.Error.{Error}
use Rattle.clap.specs.declared.error.kind.ErrorKind.TheVariants.{OutOfMemory}
use Rattle.clap.specs.declared.parser.matches.ArgMatches.{ArgMatches}
use Rattle.clap.proofs.OnLiterals.{clap_on_literals}
use Rattle.clap.proofs.WalkLemmas.{list_any-map}
use Rattle.ebs_words.specs.inner.Grammar.{grammar_app}
use Rattle.ebs_words.specs.declared.words.Command.{Command}
use Rattle.ebs_words.specs.Spellings.{IsSpelled}
use Rattle.ebs_words.specs.inner.Found.{IsFound}
use Rattle.ebs_words.proofs.Leaves.{HasDashes, dashes}
use Rattle.ebs_words.proofs.Lines.{found_is_spelled}
use Rattle.ebs_words.proofs.Spelled.{spelled_is_taken}

abbrev pub has_dashes : List (String Global) → Bool
has_dashes = list_any (λ word. pointwise nat_eq (string_bytes word) (codes "--"))

texts_dashed : (words : List (String Global)) → has_dashes words ≡ HasDashes (map string_bytes words)
texts_dashed words = list_any-map (λ word. bytes_eq word dashes) string_bytes words

simple : is_simple grammar_app ≡ true
unfolding clap_on_literals
simple = refl

free : is_simple_and_free grammar_app ≡ true
unfolding clap_on_literals
free = refl

-- words with `--` spell no command
pub none_spelled : (words : List (String Global)) (has : Bool) → has ≡ has_dashes words → has ≡ true → (c : Command) → (None ≡ Some c) ↔ IsSpelled c (map string_bytes words)
none_spelled words has tells is c = (
  λ e. cc,
  λ spelled. let bad : true ≡ false = sym is ∙ tells ∙ texts_dashed words ∙ (spelled_is_taken c (map string_bytes words) spelled).undashed in absurd cc,
)

-- what is found in words that are taken
pub found_exactly : (app : App) (words : List (String Global)) (m : ArgMatches) → app ≡ grammar_app → has_dashes words ≡ false → HasMatchesOf app (map string_bytes words) m
    → (is_simple_and_free app ≡ true → fault_of app (map string_bytes words) ≡ []) → (c : Command) → IsFound c (subcommand_rows_of m) ↔ IsSpelled c (map string_bytes words)
found_exactly app words m app_is undashed matches taken c =
    let texts = map string_bytes words in
    let rows : subcommand_rows_of m ≡ subcommand_of grammar_app texts = (matches (ap is_simple app_is ∙ simple)).1 ∙ ap (λ a. subcommand_of a texts) app_is in
    let fault : fault_of grammar_app texts ≡ [] = sym (ap (λ a. fault_of a texts) app_is) ∙ taken (ap is_simple_and_free app_is ∙ free) in (
      λ found. found_is_spelled c texts (sym (texts_dashed words) ∙ undashed) fault (rw rows at found),
      λ spelled. rw rows (spelled_is_taken c texts spelled).found,
    )

-- words that spell a command are refused for want of memory alone
pub refused_for_memory : (app : App) (words : List (String Global)) (e : Error) → app ≡ grammar_app → (is_simple_and_free app ≡ true → FailsBy {T = ArgMatches} (fault_of app (map string_bytes words)) (Err e))
    → (c : Command) → IsSpelled c (map string_bytes words) → kind_of e ≡ OutOfMemory
refused_for_memory app words e app_is fails c spelled =
    let texts = map string_bytes words in
    let fault : fault_of app texts ≡ [] = ap (λ a. fault_of a texts) app_is ∙ (spelled_is_taken c texts spelled).fault in
    elim (rw fault at fails (ap is_simple_and_free app_is ∙ free)) [ inl memory ↦ memory | inr never ↦ absurd never ]
