-- The rule of the table.
use Rattle.std.specs.Prelude.{◌≡◌, ◌≢◌, ◌⊎◌, ℕ, ◌+◌, ◌*◌, ◌^◌, ◌<◌, ◌≤◌, List, [], length, slice_index, true, Option, Some}
use Rattle.std.specs.List.{sum_by}
use mathlib.Core.Option.{some}
use mathlib.Core.List.{IsPrefix}
use lib.ListN.{get_elem?}
use Rattle.atomic_table.specs.Table.{State}
use Rattle.ebs_turns.specs.declared.line.Left.{Left}
use Rattle.ebs_turns.specs.declared.line.Turn.{Turn}
use Rattle.ebs_turns.specs.declared.seats.Opening.{Opening}
use Rattle.ebs_turns.specs.declared.seats.Place.{Place}
use Rattle.ebs_turns.specs.declared.seats.Place.TheVariants.{Home}
use Rattle.ebs_turns.specs.declared.seats.View.{View}
use Rattle.ebs_turns.specs.Line.{turns_of, turns_on, is_out}

module _ {I : Type 0} where
  -- the counts of a seat: made is the word of passes, and drawn how many numbers were drawn
  pub record CountsOk (made drawn : ℕ) (line : List (Turn I)) (number tally held next refused alone : ℕ) : Type 0 where
    pub number_drawn : 1 ≤ tally → number < drawn
    pub one_count : held + refused ≤ 1
    pub live_count : held + refused ≤ tally
    pub next_drawn : 1 ≤ held → next < drawn
    pub next_new : 1 ≤ held → number ≢ next
    pub unused : 1 ≤ held → turns_of next line ≡ []
    pub alone_is : alone ≡ 1 → made ≤ tally

module _ {T I : Type 0} where
  abbrev pub may_of : View T I → ℕ
  may_of v = v.may

  abbrev pub tally_of : View T I → ℕ
  tally_of v = v.tally

  abbrev pub held_of : View T I → ℕ
  held_of v = v.held

  abbrev pub refused_of : View T I → ℕ
  refused_of v = v.refused

  -- a seat with this number that has seen nothing of the line
  abbrev pub first_seat : Opening T → View T I
  first_seat about = record { about = Some about; number = 0; tally = 1; seen = []; may = 0; stage = 0; ticket = 0; lease = 0; held = 0; next = 0; refused = 0; alone = 0; met = []; ticket_word = 0; passes_word = 0 }

  abbrev pub Counted : ℕ → ℕ → List (Turn I) → View T I → Type 0
  Counted made drawn line v = CountsOk made drawn line v.number v.tally v.held v.next v.refused v.alone

  -- what a seat knows is so. A seat with no tally was met
  pub record SeatOk (about : Opening T) (tickets made drawn : ℕ) (line : List (Turn I)) (v : View T I) : Type 0 where
    pub about_is : 1 ≤ v.tally → v.about ≡ Some about
    pub begins : IsPrefix v.seen line
    pub met : IsPrefix v.met line
    pub waits : 1 ≤ v.stage → (length line ≤ v.ticket) × (v.ticket < tickets)
    pub turn : 2 ≤ v.stage → (v.ticket ≡ length line) × (v.seen ≡ line)
    pub few : v.may ≤ 2 * v.tally
    pub live : 1 ≤ v.stage → 1 ≤ v.tally
    -- the line has no turns of its pass but those that it has seen
    pub own : 1 ≤ v.tally → turns_of v.number line ≡ turns_of v.number v.seen
    pub counts : Counted made drawn line v
    -- its lease is out, and was taken in a turn that it has seen
    pub leased : (l : ℕ) → v.lease ≡ l + 1 → is_out l line ≡ true
    pub dealt : (l : ℕ) → v.lease ≡ l + 1 → turns_on l line ≡ turns_on l v.seen
    pub lease_live : 1 ≤ v.lease → 1 ≤ v.tally

  -- two seats have no ticket, no number and no lease in common
  pub record Apart (v w : View T I) : Type 0 where
    pub tickets : 1 ≤ v.stage → 1 ≤ w.stage → v.ticket ≢ w.ticket
    pub numbers : 1 ≤ v.tally → 1 ≤ w.tally → v.number ≢ w.number
    pub number_next : 1 ≤ v.tally → 1 ≤ w.held → v.number ≢ w.next
    pub next_number : 1 ≤ v.held → 1 ≤ w.tally → v.next ≢ w.number
    pub nexts : 1 ≤ v.held → 1 ≤ w.held → v.next ≢ w.next
    pub leases : 1 ≤ v.lease → 1 ≤ w.lease → v.lease ≢ w.lease

  -- the value is at home and follows from the first by the line, and no seat has the turn
  pub record AtHome (follows : T → List (Turn I) → T → Type 0) (about : Opening T) (line : List (Turn I)) (s : State (Place T I) (View T I)) : Type 0 where
    pub value : T
    pub left : Option (Left I)
    pub there : get_elem? s.homes 0 ≡ some (some (Home value left))
    pub stands : follows about.first.value line value
    pub idle : (j : ℕ) (v : View T I) → get_elem? s.views j ≡ some v → v.stage < 2

  -- some seat has the turn
  pub record IsOut (s : State (Place T I) (View T I)) : Type 0 where
    pub seat : ℕ
    pub view : View T I
    pub there : get_elem? s.views seat ≡ some view
    pub turn : 2 ≤ view.stage

  -- some seat that was not met has seen the whole line
  pub record IsWitnessed (line : List (Turn I)) (s : State (Place T I) (View T I)) : Type 0 where
    pub seat : ℕ
    pub view : View T I
    pub there : get_elem? s.views seat ≡ some view
    pub counts : 1 ≤ view.tally
    pub whole : view.seen ≡ line

  -- a seat has the lease
  pub record IsHeld (l : ℕ) (s : State (Place T I) (View T I)) : Type 0 where
    pub seat : ℕ
    pub view : View T I
    pub there : get_elem? s.views seat ≡ some view
    pub has_it : view.lease ≡ l + 1

  -- there is one line: the word that is served counts it, the numbers of its passes were drawn, and its leases are just those that seats have
  pub record Kept (follows : T → List (Turn I) → T → Type 0) (about : Opening T) (s : State (Place T I) (View T I)) : Type 0 where
    pub line : List (Turn I)
    pub drawn : ℕ
    pub wide : length s.words ≡ 3
    pub deep : length s.homes ≡ 1
    pub serving : slice_index s.words 1 ≡ length line
    pub queue : length line ≤ slice_index s.words 0
    pub few_passes : about.passes < 2 ^ 32
    -- the ticket word and the tickets that may still be taken
    pub room : slice_index s.words 0 + sum_by may_of s.views ≤ 2 ^ 42 + 2 * about.passes
    pub drawn_is : sum_by tally_of s.views + sum_by held_of s.views ≡ drawn
    pub drawn_few : drawn ≤ about.passes
    pub passes_is : slice_index s.words 2 ≡ drawn + sum_by refused_of s.views
    pub full : 1 ≤ sum_by refused_of s.views → drawn ≡ about.passes
    pub fresh : (n : ℕ) → drawn ≤ n → turns_of n line ≡ []
    pub each : (j : ℕ) (v : View T I) → get_elem? s.views j ≡ some v → SeatOk about (slice_index s.words 0) (slice_index s.words 2) drawn line v
    pub pairs : (i j : ℕ) (v w : View T I) → i ≢ j → get_elem? s.views i ≡ some v → get_elem? s.views j ≡ some w → Apart v w
    pub home : AtHome follows about line s ⊎ IsOut s
    pub witness : IsWitnessed line s
    pub all_held : (l : ℕ) → is_out l line ≡ true → IsHeld l s
