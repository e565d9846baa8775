-- What a check of a store tells, and that nothing is damaged where store and disk fit.
use Rattle.std.proofs.Common.{◌≡◌, ◌≤◌, ℕ, Bool, true, false, not, arith, List, [], ◌∷◌, Option, Some, None, Result, Ok, Err, refl, sym, ap, ◌∙◌}
use Rattle.std.specs.Prelude.{IfOk}
use Rattle.std.specs.List.{AllByRecursion, count_by}
use Rattle.std.specs.Cmp.{nat_cmp_total}
use Rattle.std.specs.FinMap.{get, len, entries}
use Rattle.std.specs.Str.{bytes_eq}
use Rattle.std.proofs.lemmas.List.Sums.{sum_by-cons}
use Rattle.std.proofs.lemmas.Slice.Eq.{bytes_eq-Decides}
use Rattle.sha2.specs.Sha256.{sha256}
use Rattle.ebs_world.specs.View.{View}
use Rattle.ebs_model.specs.Arrays.{WholeBlock}
use Rattle.ebs_catalog.proofs.RunCommits.{entries-in}
use Rattle.ebs_kept.specs.Stamps.{Digests, HasDigest, in_snapshot, in_volume, AreDigests}
use Rattle.ebs_recovery.specs.Stands.{Holder, snapshot, volume, blocks_at, bytes_in}
use Rattle.ebs_recovery.specs.inner.Fits.{Seen, StandsRead}
use Rattle.ebs_recovery.specs.Made.{State}
use Rattle.ebs_recovery.proofs.Refill.{slot_bytes}
use Rattle.ebs_disk_store.specs.declared.store.Stop.{Stop}
use Rattle.ebs_disk_store.specs.declared.checking.Checked.{Checked}
use Rattle.ebs_disk_store.specs.Checked.{IsChecked, differs, is_damaged}
use Rattle.ebs_disk_store.proofs.Checks.{weight, weaker}

-- none passes
count-passed : {A : Type 0} (p : A → Bool) (es : List A) → AllByRecursion (λ e. p e ≡ false) es → count_by p es ≡ 0
count-passed p [] h = refl
count-passed p (e ∷ es) h = omega (arith, sum_by-cons (λ x. weight (p x)) e es, ap weight h.0, count-passed p es h.1)

pub is_checked : (v : View) (k : State) (digests : Digests) → AreDigests k.machine digests → (r : Result Checked Stop) → IfOk r (λ c. c.blocks ≡ len k.slots) → IfOk r (λ c. c.damaged ≤ c.blocks)
    → IfOk r (λ c. v.tells ≡ true → c.damaged ≡ count_by (is_damaged v.reads digests) (entries k.slots)) → IfOk r (IsChecked v k)
is_checked v k digests are (Ok c) blocks few damaged = record { blocks = blocks; few = few; digests = digests; are_kept = are; damaged = damaged }
is_checked v k digests are (Err stop) blocks few damaged = tt

module _ (v : View) (s : Seen) (digests : Digests) (are : AreDigests s.recorded digests) where
  module _ (stand : (key : Holder) (index : ℕ) (kept : WholeBlock) → get (blocks_at s.recorded key) index ≡ Some kept → StandsRead v s kept) (stamp slot : ℕ) (has : get s.slots.keys stamp ≡ Some slot) where
    -- a read gives the bytes of the digest that is kept
    reads_it : (digest : List ℕ) → StandsRead v s (record { stamp = stamp; bytes = digest }) → not (bytes_eq (sha256 (bytes_in v.reads (Some slot))) digest) ≡ false
    reads_it digest is =
        let found : Some is.slot ≡ Some slot = sym is.found ∙ has in
        let same : slot ≡ is.slot = cc in
        ap not ((bytes_eq-Decides (sha256 (bytes_in v.reads (Some slot))) digest).1
        (ap (λ (n : ℕ). sha256 (bytes_in v.reads (Some n))) same ∙ ap sha256 (slot_bytes v.reads is.slot is.bytes is.stands) ∙ sym is.digest))

    right_of : (digest : List ℕ) → HasDigest s.recorded stamp digest → not (bytes_eq (sha256 (bytes_in v.reads (Some slot))) digest) ≡ false
    right_of digest (in_snapshot key index found) = reads_it digest (stand (snapshot key) index (record { stamp = stamp; bytes = digest }) found)
    right_of digest (in_volume key index found) = reads_it digest (stand (volume key) index (record { stamp = stamp; bytes = digest }) found)

    right_by : (o : Option (List ℕ)) → get digests stamp ≡ o → differs o (sha256 (bytes_in v.reads (Some slot))) ≡ false
    right_by None is = refl
    right_by (Some digest) is = right_of digest (are.held stamp digest is)

    right : is_damaged v.reads digests (stamp, slot) ≡ false
    right = right_by (get digests stamp) refl

  module _ (stand : (key : Holder) (index : ℕ) (kept : WholeBlock) → get (blocks_at s.recorded key) index ≡ Some kept → StandsRead v s kept) where
    pub none-damaged : count_by (is_damaged v.reads digests) (entries s.slots.keys) ≡ 0
    none-damaged = count-passed (is_damaged v.reads digests) (entries s.slots.keys)
        (weaker (λ e. get s.slots.keys e.0 ≡ Some e.1) (λ e. is_damaged v.reads digests e ≡ false) (λ e has. right stand e.0 e.1 has) (entries s.slots.keys) (entries-in nat_cmp_total s.slots.keys))

    pub nothing : v.tells ≡ true → (r : Result Checked Stop) → IfOk r (λ c. v.tells ≡ true → c.damaged ≡ count_by (is_damaged v.reads digests) (entries s.slots.keys)) → IfOk r (λ c. c.damaged ≡ 0)
    nothing told (Ok c) damaged = damaged told ∙ none-damaged
    nothing told (Err stop) damaged = tt
