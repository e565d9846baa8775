-- What parts of an opening read, one after the other.
use Rattle.std.proofs.Common.{◌≡◌, ℕ, ◌+◌, ◌^◌, ◌<◌, List, [], ◌∷◌, ◌++◌, length, take, drop, zero, suc, true, refl, sym, ◌∙◌, ap, subst, arith}
use Rattle.std.specs.Int.{w32, w64, to_be_bytes, from_be_bytes}
use Rattle.std.proofs.lemmas.Nat.{from_be_bytes-to_be_bytes_4, from_be_bytes-to_be_bytes_8}
use Rattle.ebs_world.specs.Image.{Image, Spells, Everywhere}
use Rattle.ebs_world.specs.View.{View, Ran}
use Rattle.ebs_world.specs.inner.Runs.{ran_on, spells_append}
use Rattle.ebs_journal.specs.declared.front.Front.{Front}
use Rattle.ebs_journal.specs.Opening.{bytes_at, front_of}
use Rattle.ebs_journal.specs.inner.Reading.{IsFront}

pub reads_on : (old mid new : View) → Ran Everywhere old mid → Ran Everywhere mid new → Ran Everywhere old new
reads_on old mid new first second = ran_on Everywhere old mid new first second

-- what was read later was there before
pub reads_same : (old mid : View) → Ran Everywhere old mid → old.tells ≡ true → mid.reads ≡ old.reads
reads_same old mid ran told = (λ k a i. ran.kept told a i tt k)

pub at_first : (old mid : View) (P : Image → Type 0) → Ran Everywhere old mid → (mid.tells ≡ true → P mid.reads) → old.tells ≡ true → P old.reads
at_first old mid P ran later told = subst P (reads_same old mid ran told) (later (ran.told ∙ told))

pub bytes_spelled : (f : ℕ → ℕ) (at : ℕ) (bytes : List ℕ) → Spells f at bytes → bytes_at f at (length bytes) ≡ bytes
bytes_spelled f at [] spelled = refl
bytes_spelled f at (b ∷ bytes) spelled = (λ k. spelled.0 k ∷ bytes_spelled f (at + 1) bytes spelled.1 k)

pub front_is : (f : ℕ → ℕ) (front : Front) → length front.nine ≡ 9 → front.version < 2 ^ 32 → front.epoch < 2 ^ 64 → front.length < 2 ^ 64 → Spells f 0 front.nine
    → Spells f 9 (to_be_bytes w32 front.version) → Spells f 13 (to_be_bytes w64 front.epoch) → Spells f 21 (to_be_bytes w64 front.length) → IsFront f front
unfolding front_of
front_is f front size small_version small_epoch small_length nine version epoch size_bytes =
    let nine_is : bytes_at f 0 9 ≡ front.nine = subst (λ (n : ℕ). bytes_at f 0 n ≡ front.nine) size (bytes_spelled f 0 front.nine nine) in
    let version_is : from_be_bytes w32 (bytes_at f 9 4) ≡ front.version = ap (from_be_bytes w32) (bytes_spelled f 9 (to_be_bytes w32 front.version) version) ∙ from_be_bytes-to_be_bytes_4 front.version small_version in
    let epoch_is : from_be_bytes w64 (bytes_at f 13 8) ≡ front.epoch = ap (from_be_bytes w64) (bytes_spelled f 13 (to_be_bytes w64 front.epoch) epoch) ∙ from_be_bytes-to_be_bytes_8 front.epoch small_epoch in
    let length_is : from_be_bytes w64 (bytes_at f 21 8) ≡ front.length = ap (from_be_bytes w64) (bytes_spelled f 21 (to_be_bytes w64 front.length) size_bytes) ∙ from_be_bytes-to_be_bytes_8 front.length small_length in
    record {
      is = (λ k. record { nine = sym nine_is k; version = sym version_is k; epoch = sym epoch_is k; length = sym length_is k });
      nine = nine;
      numbers = spells_append f 9 (to_be_bytes w32 front.version) (to_be_bytes w64 front.epoch ++ to_be_bytes w64 front.length) version
          (spells_append f 13 (to_be_bytes w64 front.epoch) (to_be_bytes w64 front.length) epoch size_bytes);
    }

take_spelled : (f : ℕ → ℕ) (at n : ℕ) (bytes : List ℕ) → Spells f at bytes → Spells f at (take n bytes)
take_spelled f at zero bytes spelled = tt
take_spelled f at (suc n) [] spelled = tt
take_spelled f at (suc n) (b ∷ bytes) spelled = (spelled.0, take_spelled f (at + 1) n bytes spelled.1)

drop_spelled : (f : ℕ → ℕ) (at n : ℕ) (bytes : List ℕ) → Spells f at bytes → Spells f (at + n) (drop n bytes)
drop_spelled f at zero bytes spelled = subst (λ (m : ℕ). Spells f m bytes) (omega arith) spelled
drop_spelled f at (suc n) [] spelled = tt
drop_spelled f at (suc n) (b ∷ bytes) spelled = subst (λ (m : ℕ). Spells f m (drop n bytes)) (omega arith) (drop_spelled f (at + 1) n bytes spelled.1)

-- a record's bytes, and what is ahead behind them
pub front_spelled : (f : ℕ → ℕ) (at n : ℕ) (bytes front : List ℕ) → front ≡ take n bytes → Spells f at bytes → Spells f at front
front_spelled f at n bytes front is spelled = subst (λ (l : List ℕ). Spells f at l) (sym is) (take_spelled f at n bytes spelled)

pub back_spelled : (f : ℕ → ℕ) (at n : ℕ) (bytes back : List ℕ) → back ≡ drop n bytes → Spells f at bytes → Spells f (at + n) back
back_spelled f at n bytes back is spelled = subst (λ (l : List ℕ). Spells f (at + n) l) (sym is) (drop_spelled f at n bytes spelled)
