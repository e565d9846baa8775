-- What is given up of a policy's snapshots is what is given up of each volume's.
use Rattle.std.proofs.Common.{◌≡◌, ℕ, Bool, true, false, cond, ◌&&◌, ◌==◌, List, [], ◌∷◌, map, Option, Some, None, refl, sym, ◌∙◌, arith}
use Rattle.std.proofs.lemmas.Bool.{false≢true}
use Rattle.std.proofs.lemmas.Bool.Decides.{nat_tests}
use Rattle.std.specs.List.{filter}
use Rattle.ebs_model.specs.declared.keys.SnapKey.{SnapKey}
use Rattle.ebs_model.specs.declared.keys.VolKey.{VolKey}
use Rattle.ebs_model.specs.declared.rows.SnapRow.{SnapRow}
use Rattle.ebs_model.specs.declared.policy.Policy.{Policy}
use Rattle.ebs_model.specs.declared.policy.Made.{Made}
use Rattle.ebs_model.specs.Retention.{is_released, is_ended}
use Rattle.ebs_model.specs.Policies.{made_of, is_same_volume, of_volume}

same_number : (a b : ℕ) → (a == b) ≡ true → a ≡ b
same_number a b e = grind (arith, nat_tests)

both_are : (a b : Bool) → (a && b) ≡ true → (a ≡ true) × (b ≡ true)
both_are true true e = (refl, refl)
both_are true false e = absurd (false≢true e)
both_are false b e = absurd (false≢true e)

pub same_volume : (a b : Option VolKey) → is_same_volume a b ≡ true → a ≡ b
same_volume None None e = refl
same_volume None (Some b) e = absurd (false≢true e)
same_volume (Some a) None e = absurd (false≢true e)
same_volume (Some a) (Some b) e = let (account, number) = both_are _ _ e in λ i. Some (record { account = same_number a.account b.account account i; number = same_number a.number b.number number i })

-- by any test of a snapshot among those of its volume
module _ (test : List Made → Made → Bool) (now : ℕ) (volume : Option VolKey) (all : List (SnapKey × SnapRow)) where
  abbrev passes : SnapKey × SnapRow → Bool
  passes e = test (of_volume now e.1.volume all) (made_of now e)

  pub group : (snaps : List (SnapKey × SnapRow))
      → map (λ m. m.key) (filter (test (of_volume now volume all)) (of_volume now volume snaps)) ≡ map (λ e. e.0) (filter (λ e. is_same_volume volume e.1.volume && passes e) snaps)
  group [] = refl
  group (e ∷ snaps) = by (is_same_volume volume e.1.volume) refl (group snaps)
    where
      rest : List SnapKey → Bool → List SnapKey
      rest keys b = cond b (e.0 ∷ keys) keys

      put : (b : Bool) (ms : List Made) → map (λ m. m.key) (cond b (made_of now e ∷ ms) ms) ≡ cond b (e.0 ∷ map (λ m. m.key) ms) (map (λ m. m.key) ms)
      put true ms = refl
      put false ms = refl

      kept : (b : Bool) (es : List (SnapKey × SnapRow)) → map (λ x. x.0) (cond b (e ∷ es) es) ≡ cond b (e.0 ∷ map (λ x. x.0) es) (map (λ x. x.0) es)
      kept true es = refl
      kept false es = refl

      by : (b : Bool) → is_same_volume volume e.1.volume ≡ b
          → map (λ m. m.key) (filter (test (of_volume now volume all)) (of_volume now volume snaps)) ≡ map (λ x. x.0) (filter (λ x. is_same_volume volume x.1.volume && passes x) snaps)
          → map (λ m. m.key) (filter (test (of_volume now volume all)) (map (made_of now) (cond b (e ∷ filter (λ x. is_same_volume volume x.1.volume) snaps) (filter (λ x. is_same_volume volume x.1.volume) snaps))))
          ≡ map (λ x. x.0) (cond (b && passes e) (e ∷ filter (λ x. is_same_volume volume x.1.volume && passes x) snaps) (filter (λ x. is_same_volume volume x.1.volume && passes x) snaps))
      by true t again =
          put (test (of_volume now volume all) (made_of now e)) (filter (test (of_volume now volume all)) (of_volume now volume snaps))
          ∙ (λ i. cond (test (of_volume now (same_volume volume e.1.volume t i) all) (made_of now e)) (e.0 ∷ again i) (again i))
          ∙ sym (kept (passes e) (filter (λ x. is_same_volume volume x.1.volume && passes x) snaps))
      by false t again = again

pub volume_ended : (p : Policy) (now : ℕ) (volume : Option VolKey) (snaps : List (SnapKey × SnapRow))
    → map (λ m. m.key) (filter (is_ended p.retain (of_volume now volume snaps) now) (of_volume now volume snaps))
    ≡ map (λ e. e.0) (filter (λ e. is_same_volume volume e.1.volume && is_ended p.retain (of_volume now e.1.volume snaps) now (made_of now e)) snaps)
volume_ended p now volume snaps = group (λ made m. is_ended p.retain made now m) now volume snaps snaps

pub volume_released : (p : Policy) (now : ℕ) (volume : Option VolKey) (snaps : List (SnapKey × SnapRow))
    → map (λ m. m.key) (filter (is_released p.retain (of_volume now volume snaps) now) (of_volume now volume snaps))
    ≡ map (λ e. e.0) (filter (λ e. is_same_volume volume e.1.volume && is_released p.retain (of_volume now e.1.volume snaps) now (made_of now e)) snaps)
volume_released p now volume snaps = group (λ made m. is_released p.retain made now m) now volume snaps snaps
