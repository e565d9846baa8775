-- What stands in slots, through the calls.
use Rattle.std.proofs.Common.{◌≡◌, ◌≢◌, ◌⊎◌, inl, inr, ℕ, ◌+◌, ◌-◌, ◌<◌, ◌≤◌, nat_le, List, [], ◌∷◌, length, true, false, cond, Some, refl, sym, ap, subst, ◌∙◌, arith}
use Rattle.std.proofs.lemmas.Bool.{cases_lt}
use Rattle.std.proofs.lemmas.Bool.Decides.{eqb_tells}
use Rattle.std.specs.FinMap.{get, insert}
use Rattle.sha2.specs.Sha256.{sha256}
use Rattle.ebs_world.specs.declared.area.Area.{Area}
use Rattle.ebs_world.specs.Image.{Image, Spells, Keeps, Was, Durable}
use Rattle.ebs_world.specs.View.{View, Ran, Leaves}
use Rattle.ebs_world.specs.inner.Runs.{spells_same, leaves_weaker}
use Rattle.ebs_slots.specs.Slots.{start_of, OffSlot, IsBlock}
use Rattle.ebs_slots.specs.inner.Slots.{SlotTable, IsFree, count_of, staged, adopted, abandoned, placed, forgotten, released}
use Rattle.ebs_slots.specs.inner.Standing.{Lies, EachIn, AllStand, with_block, IsRead}
use Rattle.ebs_slots.proofs.Maps.{some_none, got-insert, got-remove}
use Rattle.ebs_slots.proofs.Starts.{start_next}

-- two spellings of one length at one place
same_bytes : (f : ℕ → ℕ) (at : ℕ) (xs ys : List ℕ) → length xs ≡ length ys → Spells f at xs → Spells f at ys → xs ≡ ys
same_bytes f at [] [] e p q = refl
same_bytes f at [] (y ∷ ys) e p q = absurd (omega (arith, e))
same_bytes f at (x ∷ xs) [] e p q = absurd (omega (arith, e))
same_bytes f at (x ∷ xs) (y ∷ ys) e p q = λ i. (sym p.0 ∙ q.0) i ∷ same_bytes f (at + 1) xs ys (omega (arith, e)) p.1 q.1 i

pub one_in_slot : (c : Image) (area : Area) (slot : ℕ) (xs ys : List ℕ) → IsBlock c area slot xs → IsBlock c area slot ys → xs ≡ ys
one_in_slot c area slot xs ys p q = same_bytes (c area) (start_of area slot) xs ys (p.size ∙ sym q.size) p.stands q.stands

-- an area is kept but for another slot
pub stays_in : (c d : Image) (area : Area) (slot other : ℕ) (bytes : List ℕ) → slot ≢ other → ((i : ℕ) → OffSlot area other area i → d area i ≡ c area i) → IsBlock c area slot bytes → IsBlock d area slot bytes
stays_in c d area slot other bytes off kept is = record {
  size = is.size;
  stands = spells_same (c area) (d area) (start_of area slot) bytes (λ i from below. kept i (inr (beside i from below))) is.stands;
}
  where
    beside : (i : ℕ) → start_of area slot ≤ i → i < start_of area slot + length bytes → (i < start_of area other) ⊎ (start_of area other + 524288 ≤ i)
    beside i from below = elim (cases_lt slot other) [
      | inl less ↦ inl (omega (arith, below, less, is.size, start_next area slot, start_next area other))
      | inr more ↦ inr (past more)
    ]
      where
        past : other ≤ slot → start_of area other + 524288 ≤ i
        past more = elim (cases_lt other slot) [
          | inl less ↦ omega (arith, from, less, start_next area slot, start_next area other)
          | inr level ↦ let same : slot ≡ other = omega (arith, more, level) in absurd (off same)
        ]

pub other_stays : (c d : Image) (area : Area) (slot other : ℕ) (bytes : List ℕ) → slot ≢ other → Keeps (OffSlot area other) c d → IsBlock c area slot bytes → IsBlock d area slot bytes
other_stays c d area slot other bytes off kept = stays_in c d area slot other bytes off (kept area)

module _ (c d : Image) (s : SlotTable) (bytes : ℕ → List ℕ) (at : ℕ) (free : IsFree s at) (kept : Keeps (OffSlot s.area at) c d) (each : EachIn c s bytes) where
  pub off_key : (key slot : ℕ) → get s.keys key ≡ Some slot → slot ≢ at
  off_key key slot e same = free.no_key key (e ∙ ap Some same)

  pub off_lease : (slot : ℕ) (digest : List ℕ) → get s.leases slot ≡ Some digest → slot ≢ at
  off_lease slot digest e same = some_none digest (sym e ∙ ap (get s.leases) same ∙ free.no_lease)

  beside : (slot : ℕ) → slot ≢ at → IsBlock c s.area slot (bytes slot) → IsBlock d s.area slot (bytes slot)
  beside slot off = other_stays c d s.area slot at (bytes slot) off kept

  -- while a free slot is written
  pub still_each : EachIn d s bytes
  still_each = record {
    keyed = λ key slot e. beside slot (off_key key slot e) (each.keyed key slot e);
    leased = λ slot digest e. let was = each.leased slot digest e in (beside slot (off_lease slot digest e) was.0, was.1);
  }

  module _ (block : List ℕ) (stands : IsBlock d s.area at block) where
    off_at : (slot : ℕ) → slot ≢ at → bytes slot ≡ with_block bytes at block slot
    off_at slot off = elim (eqb_tells slot at) [
      | inl t ↦ absurd (off t.1)
      | inr t ↦ sym (ap (λ b. cond b block (bytes slot)) t.0)
    ]

    at_it : (slot : ℕ) → slot ≡ at → block ≡ with_block bytes at block slot
    at_it slot same = elim (eqb_tells slot at) [
      | inl t ↦ sym (ap (λ b. cond b block (bytes slot)) t.0)
      | inr t ↦ absurd (t.1 same)
    ]

    pub staged_each : EachIn d (staged s at (sha256 block)) (with_block bytes at block)
    staged_each = record {
      keyed = λ key slot e. subst (λ x. IsBlock d s.area slot x) (off_at slot (off_key key slot e)) (still_each.keyed key slot e);
      leased = λ slot digest e. elim (got-insert s.leases at (sha256 block) slot digest e) [
        | inl here ↦ (
          subst (λ x. IsBlock d s.area slot x) (at_it slot here.0) (subst (λ n. IsBlock d s.area n block) (sym here.0) stands),
          here.1 ∙ ap sha256 (at_it slot here.0),
        )
        | inr was ↦ let had = still_each.leased slot digest was in let same = off_at slot (off_lease slot digest was) in
            (subst (λ x. IsBlock d s.area slot x) same had.0, had.1 ∙ ap sha256 same)
      ];
    }

module _ (c : Image) (s : SlotTable) (bytes : ℕ → List ℕ) where
  pub adopted_each : (slot key : ℕ) (digest : List ℕ) → get s.leases slot ≡ Some digest → EachIn c s bytes → EachIn c (adopted s slot key) bytes
  adopted_each slot key digest lease each = record {
    keyed = λ k n e. elim (got-insert s.keys key slot k n e) [
      | inl at ↦ subst (λ m. IsBlock c s.area m (bytes m)) (sym at.1) (each.leased slot digest lease).0
      | inr was ↦ each.keyed k n was
    ];
    leased = λ n d e. each.leased n d (got-remove s.leases slot n d e);
  }

  pub forgotten_each : (key : ℕ) → EachIn c s bytes → EachIn c (forgotten s key) bytes
  forgotten_each key each = record { keyed = λ k n e. each.keyed k n (got-remove s.keys key k n e); leased = each.leased }

  pub released_each : (key : ℕ) → EachIn c s bytes → EachIn c (released s key) bytes
  released_each key each = elim (nat_le (count_of s key) 1) as (λ b. EachIn c (cond b (forgotten s key) (record s { counts = insert s.counts key (count_of s key - 1) })) bytes) [
    | true ↦ forgotten_each key each
    | false ↦ record { keyed = each.keyed; leased = each.leased }
  ]

  pub abandoned_each : (slot : ℕ) → EachIn c s bytes → EachIn c (abandoned s slot) bytes
  abandoned_each slot each = record { keyed = each.keyed; leased = λ n d e. each.leased n d (got-remove s.leases slot n d e) }

  pub placed_each : (key slot : ℕ) → EachIn c s bytes → IsBlock c s.area slot (bytes slot) → EachIn c (placed s key slot) bytes
  placed_each key slot each stands = record {
    keyed = λ k n e. elim (got-insert s.keys key slot k n e) [
      | inl at ↦ subst (λ m. IsBlock c s.area m (bytes m)) (sym at.1) stands
      | inr was ↦ each.keyed k n was
    ];
    leased = each.leased;
  }

-- a call that writes a free slot alone
module _ (old new : View) (s : SlotTable) (at : ℕ) (free : IsFree s at) (ran : Ran (OffSlot s.area at) old new) (bytes : ℕ → List ℕ) (all : AllStand old s bytes) where
  was_each : old.tells ≡ true → old.honest ≡ true → (c : Image) → Was (OffSlot s.area at) old.may_leave c → EachIn c s bytes
  was_each tells honest c was = still_each was.0 c s bytes at free was.2 (all.images tells honest was.0 was.1)

  pub stage_moments : old.tells ≡ true → old.honest ≡ true → Leaves old new (λ c. EachIn c s bytes)
  stage_moments tells honest = leaves_weaker old new (Was (OffSlot s.area at) old.may_leave) (λ c. EachIn c s bytes) (was_each tells honest) (ran.moments honest)

  pub still_all : AllStand new s bytes
  still_all = record {
    reads = λ tells. let told = sym ran.told ∙ tells in still_each old.reads new.reads s bytes at free (ran.kept told) (all.reads told);
    images = λ tells honest c now. let told = sym ran.told ∙ tells in let kept = sym ran.kept_honest ∙ honest in was_each told kept c (ran.images kept c now);
  }

  pub staged_all : (block : List ℕ) → Lies new s.area at block → AllStand new (staged s at (sha256 block)) (with_block bytes at block)
  staged_all block lies = record {
    reads = λ tells. let told = sym ran.told ∙ tells in staged_each old.reads new.reads s bytes at free (ran.kept told) (all.reads told) block (lies.reads tells);
    images = λ tells honest c now.
        let told = sym ran.told ∙ tells in
        let kept = sym ran.kept_honest ∙ honest in
        let was = ran.images kept c now in
        staged_each was.0 c s bytes at free was.2 (all.images told kept was.0 was.1) block (lies.images tells honest c now);
  }

-- a block that was written durably
pub durably : (old new : View) (area : Area) (slot : ℕ) (block : List ℕ) → new.tells ≡ old.tells → new.honest ≡ old.honest → length block ≡ 524288
    → (old.tells ≡ true → Spells (new.reads area) (start_of area slot) block) → (old.tells ≡ true → old.honest ≡ true → Durable area new.reads new.may_leave) → Lies new area slot block
durably old new area slot block told kept_honest size written durable = record {
  reads = λ tells. record { size = size; stands = written (sym told ∙ tells) };
  images = λ tells honest c now. record {
    size = size;
    stands = spells_same (new.reads area) (c area) (start_of area slot) block (λ i from below. durable (sym told ∙ tells) (sym kept_honest ∙ honest) c now i) (written (sym told ∙ tells));
  };
}

-- what was read of the slot that the key has
pub read_is : (v : View) (s : SlotTable) (area : Area) (key slot : ℕ) (bytes : List ℕ) → area ≡ s.area → get s.keys key ≡ Some slot → length bytes ≡ 524288
    → (v.tells ≡ true → Spells (v.reads area) (start_of area slot) bytes) → IsRead v s key bytes
read_is v s area key slot bytes same has size spells = record {
  size = size;
  read = λ n e tells.
      let both : Some slot ≡ Some n = sym has ∙ e in
      let is : slot ≡ n = cc in
      subst (λ a. Spells (v.reads a) (start_of a n) bytes) same (subst (λ m. Spells (v.reads area) (start_of area m) bytes) is (spells tells));
}

pub read_exact : (v : View) (s : SlotTable) (key : ℕ) (given : List ℕ) → IsRead v s key given → (slot : ℕ) (bytes : List ℕ) → get s.keys key ≡ Some slot → v.tells ≡ true
    → IsBlock v.reads s.area slot bytes → given ≡ bytes
read_exact v s key given is slot bytes e tells stands = one_in_slot v.reads s.area slot given bytes (record { size = is.size; stands = is.read slot e tells }) stands
