-- What the parts of an opening give together.
use Rattle.std.proofs.Common.{◌≡◌, ◌≢◌, inr, ℕ, ◌+◌, ◌*◌, ◌^◌, ◌<◌, ◌≤◌, List, [], ◌∷◌, ◌++◌, length, drop, true, false, nat_eq, get_or, refl, sym, ◌∙◌, ap, subst, arith, length-append}
use Rattle.std.specs.Int.{w32, w64, to_be_bytes}
use Rattle.std.specs.Cmp.Lexicographic.{bytes_decides}
use Rattle.std.proofs.lemmas.Bool.{eqb-true}
use Rattle.ebs_world.specs.declared.area.Area.{Area}
use Rattle.ebs_world.specs.declared.area.Area.TheVariants.{Journal0, Journal1, Blocks, Archive}
use Rattle.ebs_world.specs.Image.{Image, Spells, Everywhere, Durable}
use Rattle.ebs_world.specs.View.{View, Ran}
use Rattle.ebs_world.specs.inner.Runs.{spells_append}
use Rattle.ebs_journal.specs.declared.front.Found.{Found}
use Rattle.ebs_journal.specs.declared.refusal.JournalRefusal.{JournalRefusal}
use Rattle.ebs_journal.specs.declared.replay.Replay.{Replay}
use Rattle.ebs_journal.specs.inner.Line.{Line}
use Rattle.ebs_journal.specs.inner.Standing.{IsSettled, IsOpened, IsAside}
use Rattle.ebs_journal.specs.Format.{magic, head_of, open_head, entry, entries, AllRecords}
use Rattle.ebs_journal.specs.inner.Format.{places_from}
use Rattle.ebs_journal.specs.Opening.{is_open, IsJournal, IsRefused, Counts}
use Rattle.ebs_journal.specs.inner.Reading.{IsFound, IsSized, IsRecordsRefusal}
use Rattle.ebs_journal.proofs.Aside.{aside_read}
use Rattle.ebs_journal.proofs.Counting.{open_counted}
use Rattle.ebs_journal.proofs.Gates.{length-head, length-entry}

-- six bytes and more for each record
pub records_long : (rs : List (List ℕ)) → AllRecords rs → 6 * length rs ≤ length (entries rs)
records_long [] all = omega arith
records_long (r ∷ rs) all = omega (arith, records_long rs all.1, all.0, length-append (1 ∷ entry r) (entries rs), length-entry r)

-- the bytes of a head, from its front and its checkpoint
pub head_spelled : (f : ℕ → ℕ) (epoch : ℕ) (checkpoint : List ℕ) → f 0 ≡ 1 → Spells f 1 magic → Spells f 9 (to_be_bytes w32 1 ++ (to_be_bytes w64 epoch ++ to_be_bytes w64 (length checkpoint)))
    → Spells f 29 checkpoint → Spells f 0 (open_head epoch checkpoint)
unfolding head_of
head_spelled f epoch checkpoint gate is_magic numbers bytes = (
  gate,
  spells_append f 1 magic (to_be_bytes w32 1 ++ (to_be_bytes w64 epoch ++ (to_be_bytes w64 (length checkpoint) ++ checkpoint))) is_magic
      (spells_append f 9 (to_be_bytes w32 1 ++ (to_be_bytes w64 epoch ++ to_be_bytes w64 (length checkpoint))) checkpoint numbers bytes),
)

first_byte : (f : ℕ → ℕ) (nine : List ℕ) → nat_eq (get_or nine 0 0) 1 ≡ true → Spells f 0 nine → f 0 ≡ 1
first_byte f [] is spelled = absurd (omega (arith, eqb-true 0 1 is))
first_byte f (b ∷ bytes) is spelled = spelled.0 ∙ eqb-true b 1 is

rest_bytes : (f : ℕ → ℕ) (nine : List ℕ) → Spells f 0 nine → Spells f 1 (drop 1 nine)
rest_bytes f [] spelled = tt
rest_bytes f (b ∷ bytes) spelled = spelled.1

module _ (c : Image) (found : Found) (is : IsFound c found) where
  gate_open : c found.area 0 ≡ 1
  gate_open = first_byte (c found.area) found.front.nine (ap is_open is.front.is ∙ (open_counted c found.area is.counts).1) is.front.nine

  magic_there : Spells (c found.area) 1 magic
  magic_there = subst (λ (l : List ℕ). Spells (c found.area) 1 l) ((bytes_decides (drop 1 found.front.nine) magic).0 is.magic) (rest_bytes (c found.area) found.front.nine is.front.nine)

  pub counts_there : Counts c found.area found.front
  counts_there = record { made = is.made; counts = is.counts; front_is = is.front.is }

  pub whole_head : (checkpoint : List ℕ) → length checkpoint ≡ found.front.length → Spells (c found.area) 29 checkpoint → Spells (c found.area) 0 (open_head found.front.epoch checkpoint)
  whole_head checkpoint size bytes =
      let numbers : Spells (c found.area) 9 (to_be_bytes w32 1 ++ (to_be_bytes w64 found.front.epoch ++ to_be_bytes w64 (length checkpoint))) =
      subst (λ (n : ℕ). Spells (c found.area) 9 (to_be_bytes w32 1 ++ (to_be_bytes w64 found.front.epoch ++ to_be_bytes w64 n))) (sym size)
      (subst (λ (n : ℕ). Spells (c found.area) 9 (to_be_bytes w32 n ++ (to_be_bytes w64 found.front.epoch ++ to_be_bytes w64 found.front.length))) is.version is.front.numbers) in
      head_spelled (c found.area) found.front.epoch checkpoint gate_open magic_there numbers bytes

  pub journal_there : found.front.epoch < 2 ^ 64 → (checkpoint : List ℕ) → length checkpoint ≡ found.front.length → Spells (c found.area) 29 checkpoint
      → (rs : List (List ℕ)) (places : List ℕ) (gate : ℕ) → IsSized (29 + found.front.length) rs places gate → Spells (c found.area) (29 + found.front.length) (entries rs) → c found.area gate ≢ 1
      → IsJournal c found.area found.front.epoch checkpoint rs
  journal_there small checkpoint size bytes rs places gate sized spelled shut =
      let head_length : length (open_head found.front.epoch checkpoint) ≡ 29 + found.front.length = omega (arith, size, length-head found.front.epoch checkpoint) in
      let gate_is : length (open_head found.front.epoch checkpoint ++ entries rs) ≡ gate = omega (arith, sized.ends, head_length, length-append (open_head found.front.epoch checkpoint) (entries rs)) in
      record {
        made = is.made;
        counts = is.counts;
        short = record { epoch_fits = small; checkpoint_fits = omega (arith, is.length_fits, size); records = sized.records; ends = omega (arith, gate_is, sized.within) };
        has = record {
          spelled = spells_append (c found.area) 0 (open_head found.front.epoch checkpoint) (entries rs) (whole_head checkpoint size bytes)
              (subst (λ (n : ℕ). Spells (c found.area) n (entries rs)) (omega (arith, head_length)) spelled);
          shut = λ one. shut (ap (c found.area) (sym gate_is) ∙ one);
        };
      }

  pub refused_there : (e : JournalRefusal) → IsRecordsRefusal (c found.area) (29 + found.front.length) e → IsRefused c e
  refused_there e refusal = subst (IsRefused c) (sym refusal.1)
      (found.area, found.front, counts_there, is.magic, is.version, inr (is.length_fits, refusal.2))

-- after a sync of all areas, and reads behind it, each image is what was read at first
pub image_read : (old mid new : View) → Ran Everywhere old mid → Ran Everywhere mid new → old.tells ≡ true → old.honest ≡ true
    → ((c : Image) → mid.may_leave c → (a : Area) (i : ℕ) → c a i ≡ mid.reads a i) → (c : Image) → new.may_leave c → old.reads ≡ c
image_read old mid new first second told honest durable c now =
    let was = second.images (first.kept_honest ∙ honest) c now in
    (λ k a i. sym (was.2 a i tt ∙ durable was.0 was.1 a i ∙ first.kept told a i tt) k)

-- what one sync made durable stays so over the next ones
pub durable_on : (area : Area) (mid new : View) → Ran Everywhere mid new → mid.tells ≡ true → mid.honest ≡ true → Durable area mid.reads mid.may_leave → Durable area new.reads new.may_leave
durable_on area mid new ran told honest durable c now i =
    let was = ran.images honest c now in
    was.2 area i tt ∙ durable was.0 was.1 i ∙ sym (ran.kept told area i tt)

pub each_area : (v : View) → Durable Journal0 v.reads v.may_leave → Durable Journal1 v.reads v.may_leave → Durable Blocks v.reads v.may_leave → Durable Archive v.reads v.may_leave
    → (c : Image) → v.may_leave c → (a : Area) (i : ℕ) → c a i ≡ v.reads a i
each_area v one two three four c now Journal0 i = one c now i
each_area v one two three four c now Journal1 i = two c now i
each_area v one two three four c now Blocks i = three c now i
each_area v one two three four c now Archive i = four c now i

-- all of it, as an opening gives it
pub opened_there : (c : Image) (found : Found) → IsFound c found → found.front.epoch < 2 ^ 64 → (checkpoint : List ℕ) → length checkpoint ≡ found.front.length → Spells (c found.area) 29 checkpoint
    → (rs : List (List ℕ)) (places : List ℕ) (gate : ℕ) → IsSized (29 + found.front.length) rs places gate → Spells (c found.area) (29 + found.front.length) (entries rs) → c found.area gate ≢ 1
    → (n : ℕ) → n ≡ length rs → (replay : Replay) → replay.checkpoint ≡ checkpoint → replay.records ≡ rs → replay.places ≡ places
    → IsOpened c (record { area = found.area; epoch = found.front.epoch; end = gate + 1; since_checkpoint = n; clean = true; shut = found.shut; turning = false }) replay
opened_there c found is small checkpoint size bytes rs places gate sized spelled shut n many replay checkpoint_is records_are places_are =
    let journal = journal_there c found is small checkpoint size bytes rs places gate sized spelled shut in
    let head_length : length (open_head found.front.epoch checkpoint) ≡ 29 + found.front.length = omega (arith, size, length-head found.front.epoch checkpoint) in
    let end : gate + 1 ≡ length (open_head found.front.epoch checkpoint ++ entries rs) + 1 = omega (arith, sized.ends, head_length, length-append (open_head found.front.epoch checkpoint) (entries rs)) in
    let placed : places ≡ places_from (29 + length checkpoint) rs = sized.places_are ∙ ap (λ (m : ℕ). places_from (29 + m) rs) (sym size) in
    record {
      journal = subst (λ (l : List ℕ). IsJournal c found.area found.front.epoch l replay.records) (sym checkpoint_is) (subst (IsJournal c found.area found.front.epoch checkpoint) (sym records_are) journal);
      clean = refl;
      behind = record {
        end = end ∙ (λ k. length (open_head found.front.epoch (sym checkpoint_is k) ++ entries (sym records_are k)) + 1);
        since_checkpoint = many ∙ ap length (sym records_are);
      };
      places = places_are ∙ placed ∙ (λ k. places_from (29 + length (sym checkpoint_is k)) (sym records_are k));
      still = refl;
      aside = aside_read c found.area found.shut (open_counted c found.area is.counts).0 is.counts is.shut;
    }

pub settled_there : (old mid new : View) → Ran Everywhere old mid → Ran Everywhere mid new → old.tells ≡ true → old.honest ≡ true
    → ((c : Image) → mid.may_leave c → (a : Area) (i : ℕ) → c a i ≡ mid.reads a i) → (j : Line) (replay : Replay) → IsOpened old.reads j replay → IsSettled new j replay.checkpoint replay.records
settled_there old mid new first second told honest durable j replay opened = record {
  tells = second.told ∙ first.told ∙ told;
  honest = second.kept_honest ∙ first.kept_honest ∙ honest;
  clean = opened.clean;
  still = opened.still;
  behind = opened.behind;
  images = λ c now. subst (λ (i : Image). IsJournal i j.area j.epoch replay.checkpoint replay.records) (image_read old mid new first second told honest durable c now) opened.journal;
  aside = λ c now. subst (λ (i : Image). IsAside j.shut i j.area) (image_read old mid new first second told honest durable c now) opened.aside;
}

-- and each image has all that is read
pub durable_there : (old mid new : View) → Ran Everywhere old mid → Ran Everywhere mid new → old.tells ≡ true → old.honest ≡ true
    → ((c : Image) → mid.may_leave c → (a : Area) (i : ℕ) → c a i ≡ mid.reads a i) → (c : Image) → new.may_leave c → (a : Area) (i : ℕ) → c a i ≡ new.reads a i
durable_there old mid new first second told honest durable c now a i =
    let was = second.images (first.kept_honest ∙ honest) c now in
    was.2 a i tt ∙ durable was.0 was.1 a i ∙ sym (second.kept (first.told ∙ told) a i tt)
