-- A machine whose stamps were all given out is seen alike with itself.
use Rattle.std.proofs.Common.{◌≡◌, inl, inr, unwrap_or, ℕ, ◌<◌, nat_lt, ◌==◌, Bool, true, false, cond, ◌&&◌, Option, Some, None, ap, ◌∙◌, refl, arith}
use Rattle.std.proofs.lemmas.Bool.Decides.{nat_tests}
use Rattle.std.specs.FinMap as fin
use Rattle.ebs_model.specs.declared.keys.SnapKey.{SnapKey}
use Rattle.ebs_model.specs.declared.keys.VolKey.{VolKey}
use Rattle.ebs_model.specs.Arrays.{WholeBlock, WholeArray}
use Rattle.ebs_model.specs.Time.{Snapshot}
use Rattle.ebs_model.specs.Machine.{Machine, empty_machine}
use Rattle.ebs_model.specs.Timed.{after_all}
use Rattle.ebs_laws.specs.Puts.{StampsGiven, IsBlockOf, block_in}
use Rattle.ebs_laws.specs.IsolationLaws.{is_shown_to, shown, seen_of, Both, Renaming, SameBlock, SameArray, SameSnapshot, SameView, own_volume, AgreesWithItself}
use Rattle.ebs_laws.proofs.Stamps.{stamps-run}

abbrev same_stamp : ℕ → Renaming
same_stamp next s t = (s == t) && nat_lt s next

one_itself : (next a b c d : ℕ) → same_stamp next a b ≡ true → same_stamp next c d ≡ true → (a == c) ≡ (b == d)
one_itself next a b c d p q = grind (arith, nat_tests)

given_itself : (next a b : ℕ) → same_stamp next a b ≡ true → (a < next) × (b < next)
given_itself next a b p = (grind (arith, nat_tests), grind (arith, nat_tests))

given : (next s : ℕ) → s < next → same_stamp next s s ≡ true
given next s below = grind (arith, nat_tests)

module _ (account : ℕ) (m : Machine) (stamps : StampsGiven m) where
  abbrev r : Renaming
  r = same_stamp m.stamps

  array_itself : (array : WholeArray) → ((i : ℕ) (b : WholeBlock) → fin.get array i ≡ Some b → IsBlockOf m b) → SameArray r array array
  array_itself array there = record { at = λ i. each i (fin.get array i) refl }
    where
      each : (i : ℕ) (o : Option WholeBlock) → fin.get array i ≡ o → Both (SameBlock r) o o
      each i None e = tt
      each i (Some b) e = record { bytes = refl; stamps = given m.stamps b.stamp (stamps b (there i b e)) }

  snap_itself : (key : SnapKey) (s : Snapshot) → fin.get m.snaps key ≡ Some s → SameArray r s.array s.array
  snap_itself key s is = array_itself s.array (λ i b e. inl (key, i, ap (λ o. block_in o i) is ∙ e))

  disk_itself : (key : VolKey) (o : Option WholeArray) → fin.get m.disks key ≡ o → Both (SameArray r) o o
  disk_itself key None is = tt
  disk_itself key (Some array) is = array_itself array (λ i b e. inr (key, i, ap (λ o. fin.get (unwrap_or o fin.empty) i) is ∙ e))

  snapshot_itself : (key : SnapKey) (o : Option Snapshot) → fin.get m.snaps key ≡ o → Both (SameSnapshot r) (seen_of account key m.clock.second o) (seen_of account key m.clock.second o)
  snapshot_itself key None is = tt
  snapshot_itself key (Some s) is = at (account == key.account) (is_shown_to account m.clock.second s.row)
    where
      at : (b c : Bool) → Both (SameSnapshot r) (cond b (Some s) (cond c (Some (shown s)) None)) (cond b (Some s) (cond c (Some (shown s)) None))
      at true c = record { row = refl; array = snap_itself key s is }
      at false true = record { row = refl; array = snap_itself key s is }
      at false false = tt

  same-itself : SameView account r m m
  same-itself = record {
    renaming = record { one = one_itself m.stamps; given = given_itself m.stamps };
    snaps = λ key. snapshot_itself key (fin.get m.snaps key) refl;
    own = refl;
    tokens = λ text. refl;
    vols = λ number. refl;
    disks = λ number. disk_itself (own_volume account number) (fin.get m.disks (own_volume account number)) refl;
    book = refl;
    policies = λ number. refl;
  }

pub agrees-itself : AgreesWithItself
agrees-itself secret turns account few =
    let m = after_all (empty_machine secret) turns in
    record { clock = refl; secret = refl; few = few; other_few = few; stamps = same_stamp m.stamps; same = same-itself account m (stamps-run secret turns) }
