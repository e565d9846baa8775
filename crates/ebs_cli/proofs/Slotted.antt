-- What calls keep of a store's slots.
use Rattle.std.proofs.Common.{◌≡◌, ◌-◌, if◌then◌else◌, inl, inr, ℕ, Bool, true, false, List, Option, None, Some, sym, subst, ◌∙◌}
use Rattle.std.specs.Prelude.{nat_le}
use Rattle.std.specs.FinMap as fin
use Rattle.std.specs.Cmp.{nat_cmp_total}
use Rattle.std.specs.FinMap.{nat_cmp-IsAntisymmetric}
use Rattle.sha2.specs.Sha256.{sha256}
use Rattle.ebs_world.specs.View.{View}
use Rattle.ebs_tables.proofs.MapEdits.{remove-back}
use Rattle.ebs_holds.specs.Counted.{without_stamp}
use Rattle.ebs_slots.specs.inner.Slots.{IsNext, SlotTable, abandoned, adopted, count_of, forgotten, released, staged}
use Rattle.ebs_model.specs.Machine.{Machine}
use Rattle.ebs_model.specs.declared.keys.Moment.{Moment}
use Rattle.ebs_model.specs.declared.request.Request.{Request}
use Rattle.ebs_model.specs.declared.answer.Answer.{Answer}
use Rattle.ebs_recovery.specs.inner.Fits.{Seen}
use Rattle.ebs_disk_store.specs.declared.heads.PutHead.{PutHead}
use Rattle.ebs_disk_store.specs.inner.Turned.{IsLeft, IsSpared, Told}
use Rattle.ebs_disk_store.specs.inner.Turned as turned
use Rattle.ebs_disk_store.specs.inner.Viewed.{Viewed}
use Rattle.ebs_disk_store.specs.inner.Viewed as viewed
use Rattle.ebs_disk_store.specs.inner.Fetched.{Fetched}
use Rattle.ebs_disk_store.specs.inner.Fetched as fetched
use Rattle.ebs_disk_store.specs.inner.Puts.{GivesUp, IsReturned, WholePutTold}
use Rattle.ebs_disk_store.specs.inner.Puts as puts
use Rattle.ebs_disk_store.specs.inner.Applied.{Applied}
use Rattle.ebs_disk_store.specs.inner.Applied as applied

-- it stays where a block was staged and its lease is given up or taken over by a stamp, and where a stamp is given up or counted down
pub record IsSteady (P : SlotTable → Type 0) : Type 0 where
  pub returned : (s : SlotTable) (slot : ℕ) (digest : List ℕ) → IsNext s slot → P s → P (abandoned (staged s slot digest) slot)
  pub taken : (s : SlotTable) (slot : ℕ) (digest : List ℕ) (stamp : ℕ) → IsNext s slot → P s → P (adopted (staged s slot digest) slot stamp)
  pub gone : (s : SlotTable) (key : ℕ) → P s → P (forgotten s key)
  pub lowered : (s : SlotTable) (key : ℕ) → P s → P (record s { counts = fin.insert s.counts key (count_of s key - 1) })

-- no slot is under lease
abbrev pub IsUnleased : SlotTable → Type 0
IsUnleased s = s.leases ≡ fin.empty

pub unleased_steady : IsSteady IsUnleased
unleased_steady = record {
  returned = λ s slot digest next none. remove-back nat_cmp_total nat_cmp-IsAntisymmetric s.leases slot digest (sym next.free.no_lease) ∙ none;
  taken = λ s slot digest stamp next none. remove-back nat_cmp_total nat_cmp-IsAntisymmetric s.leases slot digest (sym next.free.no_lease) ∙ none;
  gone = λ s key none. none;
  lowered = λ s key none. none;
}

module _ (P : SlotTable → Type 0) (steady : IsSteady P) where
  abbrev Has : Seen → Type 0
  Has s = P s.slots

  released_has : (s : SlotTable) (key : ℕ) → P s → P (released s key)
  released_has s key has = by (nat_le (count_of s key) 1)
    where
      by : (b : Bool) → P (if b then forgotten s key else record s { counts = fin.insert s.counts key (count_of s key - 1) })
      by true = steady.gone s key has
      by false = steady.lowered s key has

  without_has : (s : SlotTable) (gone : Option ℕ) → P s → P (without_stamp s gone)
  without_has s None has = has
  without_has s (Some key) has = released_has s key has

  given_up_has : (m : Machine) (s t : SlotTable) → GivesUp m s t → P s → P t
  given_up_has m s t up has = subst P (sym up.is) (without_has s up.gone has)

  viewed_has : (s t : Seen) (account : ℕ) (now : Moment) (request : Request) (answer : Answer) → Viewed s t account now request answer → Has s → Has t
  viewed_has s t account now request answer (viewed.shown a acts is) has = subst Has (sym is) has
  viewed_has s t account now request answer (viewed.refused refusal acts is) has = subst Has (sym is) has
  viewed_has s t account now request answer (viewed.memory is) has = subst Has (sym is) has

  fetched_has : (Still Rose : Type 0) (v : View) (s t : Seen) (account : ℕ) (now : Moment) (request : Request) (answer : Answer) → Fetched Still Rose v s t account now request answer → Has s → Has t
  fetched_has Still Rose v s t account now request answer (fetched.fetched digest bytes acts whole is) has = subst Has (sym is) has
  fetched_has Still Rose v s t account now request answer (fetched.zeros acts is still) has = subst Has (sym is) has
  fetched_has Still Rose v s t account now request answer (fetched.damaged stored found acts other there is) has = subst Has (sym is) has
  fetched_has Still Rose v s t account now request answer (fetched.refused refusal acts is still) has = subst Has (sym is) has
  fetched_has Still Rose v s t account now request answer (fetched.unavailable digest rose acts is) has = subst Has (sym is) has
  fetched_has Still Rose v s t account now request answer (fetched.memory still is) has = subst Has (sym is) has

  left_has : (s t : Seen) (account : ℕ) (now : Moment) (request : Request) → IsLeft s t account now request → Has s → Has t
  left_has s t account now request (inl is) has = subst Has (sym is) has
  left_has s t account now request (inr (inl is)) has = subst Has (sym is) has
  left_has s t account now request (inr (inr is)) has = subst Has (sym is) has

  spared_has : (s t : Seen) → IsSpared s t → Has s → Has t
  spared_has s t (inl is) has = subst Has (sym is) has
  spared_has s t (inr is) has = subst Has (sym is) has

  changed_has : (Still Rose : Type 0) (s t : Seen) (account : ℕ) (now : Moment) (request : Request) (answer : Answer) → Told Still Rose s t account now request answer → Has s → Has t
  changed_has Still Rose s t account now request answer (turned.made_change a acts more clock at slots pending) has = subst P (sym slots) has
  changed_has Still Rose s t account now request answer (turned.answered a acts is still) has = subst Has (sym is) has
  changed_has Still Rose s t account now request answer (turned.refused refusal acts is still) has = subst Has (sym is) has
  changed_has Still Rose s t account now request answer (turned.unavailable rose would left) has = left_has s t account now request left has
  changed_has Still Rose s t account now request answer (turned.memory left) has = spared_has s t left has

  returned_has : (s t : Seen) (digest : List ℕ) → IsReturned s t digest → Has s → Has t
  returned_has s t digest (slot, next, is) has = subst Has (sym is) (steady.returned s.slots slot digest next has)

  put_has : (Still Rose : Type 0) (s t : Seen) (account : ℕ) (now : Moment) (put : PutHead) (digest : List ℕ) (answer : Answer) → WholePutTold Still Rose s t account now put digest answer → Has s → Has t
  put_has Still Rose s t account now put digest answer (puts.put_made a acts more clock at slot next up pending) has =
      given_up_has t.recorded (adopted (staged s.slots slot digest) slot s.recorded.stamps) t.slots up (steady.taken s.slots slot digest s.recorded.stamps next has)
  put_has Still Rose s t account now put digest answer (puts.put_refused refusal acts (inl (is, still))) has = subst Has (sym is) has
  put_has Still Rose s t account now put digest answer (puts.put_refused refusal acts (inr (passes, (slot, next, is)))) has = subst Has (sym is) (steady.returned s.slots slot digest next has)
  put_has Still Rose s t account now put digest answer (puts.put_unstaged rose passes left) has = spared_has s t left has
  put_has Still Rose s t account now put digest answer (puts.put_unavailable rose would slot next (inl is)) has = subst Has (sym is) (steady.returned s.slots slot digest next has)
  put_has Still Rose s t account now put digest answer (puts.put_unavailable rose would slot next (inr (inl is))) has = subst Has (sym is) (steady.returned s.slots slot digest next has)
  put_has Still Rose s t account now put digest answer (puts.put_unavailable rose would slot next (inr (inr is))) has = subst Has (sym is) (steady.returned s.slots slot digest next has)
  put_has Still Rose s t account now put digest answer (puts.put_memory (inl is)) has = subst Has (sym is) has
  put_has Still Rose s t account now put digest answer (puts.put_memory (inr (inl is))) has = subst Has (sym is) has
  put_has Still Rose s t account now put digest answer (puts.put_memory (inr (inr back))) has = returned_has s t digest back has

  pub applied_has : (Still Rose : Type 0) (v : View) (s t : Seen) (account : ℕ) (now : Moment) (request : Request) (answer : Answer) → Applied Still Rose v s t account now request answer → P s.slots → P t.slots
  applied_has Still Rose v s t account now request answer (applied.shown view still is) has = viewed_has s t account now request answer is has
  applied_has Still Rose v s t account now request answer (applied.fetched fetch is) has = fetched_has Still Rose v s t account now request answer is has
  applied_has Still Rose v s t account now request answer (applied.changed change is) has = changed_has Still Rose s t account now request answer is has
  applied_has Still Rose v s t account now request answer (applied.put put bytes is within by) has = put_has Still Rose s t account now put (sha256 bytes) answer by has
  applied_has Still Rose v s t account now request answer (applied.bad refusal refuses is still e) has = subst Has (sym is) has
  applied_has Still Rose v s t account now request answer (applied.starved is still e) has = subst Has (sym is) has
