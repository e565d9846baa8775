-- Two machines that an account sees alike are seen alike later.
use Rattle.std.proofs.Common.{◌≡◌, ℕ, ◌≤◌, nat_le, nat_lt, Bool, true, false, cond, not, ◌&&◌, ◌||◌, ◌==◌, Option, Some, None, sym, ap, subst, ◌∙◌, refl, arith}
use Rattle.std.proofs.lemmas.Bool.Decides.{nat_tests}
use Rattle.std.proofs.lemmas.Map.Entries.{option_filter}
use Rattle.std.specs.List.{list_any}
use Rattle.std.specs.Option.{option_map}
use Rattle.std.specs.FinMap as fin
use Rattle.ebs_model.specs.declared.keys.SnapKey.{SnapKey}
use Rattle.ebs_model.specs.declared.keys.Moment.{Moment}
use Rattle.ebs_model.specs.declared.rows.Tier.{Tier}
use Rattle.ebs_model.specs.declared.rows.Tier.TheVariants.{Standard, Archived, Temporary}
use Rattle.ebs_model.specs.Arrays.{WholeArray}
use Rattle.ebs_model.specs.Time.{Snapshot, is_reached, stays, rested}
use Rattle.ebs_model.specs.Access.{owns}
use Rattle.ebs_model.specs.Machine.{Machine, advance}
use Rattle.ebs_model.proofs.Aged.{aged_row, fails, get-aged, rested-same}
use Rattle.ebs_laws.specs.OrderLaws.{is_in_bin, is_tier_read}
use Rattle.ebs_laws.specs.IsolationLaws.{is_shown_to, shown, seen_of, view, Both, Renaming, SameArray, SameSnapshot, SameView}
use Rattle.ebs_laws.proofs.Stays.{never_failed}
use Rattle.ebs_laws.proofs.SameViews.{twin, view-own, seen_by_other, view-other, own-rows, other-rows}
use Rattle.ebs_laws.proofs.SameMoves.{empty-SameArray}

-- of its own snapshots
rested-same-array : (r : Renaming) (t : ℕ) (x : Snapshot) (b : WholeArray) → SameArray r x.array b → SameSnapshot r (rested t x) (rested t (record { row = x.row; array = b }))
rested-same-array r t x b same = record { row = refl; array = at (fails x t) }
  where
    at : (v : Bool) → SameArray r (cond v fin.empty x.array) (cond v fin.empty b)
    at true = empty-SameArray r
    at false = same

aged-both : (r : Renaming) (t : ℕ) (o p : Option Snapshot) → Both (SameSnapshot r) o p → Both (SameSnapshot r) (aged_row t o) (aged_row t p)
aged-both r t None None b = tt
aged-both r t None (Some y) b = absurd b
aged-both r t (Some x) None b = absurd b
aged-both r t (Some x) (Some y) b = subst (λ row. Both (SameSnapshot r) (aged_row t (Some x)) (aged_row t (Some (record { row = row; array = y.array })))) (sym b.row) (at (stays t x.row))
  where
    at : (v : Bool) → Both (SameSnapshot r) (option_map (rested t) (cond v (Some x) None)) (option_map (rested t) (cond v (Some (record { row = x.row; array = y.array })) None))
    at true = rested-same-array r t x y.array b.array
    at false = tt

-- of others' snapshots: what is seen later is of what is seen now
abbrev keeps : ℕ → Snapshot → Bool
keeps t s = stays t s.row && (not (is_in_bin s.row.bin_end t) && is_tier_read s.row.tier t)

one_of : (a : ℕ) (b : ℕ) → nat_lt b a ≡ not (nat_le a b)
one_of a b = grind (arith, nat_tests)

module _ (c t : ℕ) (later : c ≤ t) where
  -- what is read later is read now
  was-read : (tier : Tier) → is_tier_read tier t ≡ true → is_tier_read tier c ≡ true
  was-read Standard e = refl
  was-read Archived e = cc
  was-read (Temporary until) e = grind (arith, nat_tests)

  kept : (p whole then read : Bool) (x y : Snapshot) → (read ≡ true → then ≡ true) → (whole ≡ true → y ≡ x)
      → cond (p && (whole && read)) (Some y) None ≡ cond (p && (whole && then)) (cond read (Some x) None) None
  kept false whole then read x y was same = refl
  kept true false then read x y was same = refl
  kept true true then true x y was same = ap Some (same refl) ∙ sym (ap (λ b. cond b (Some x) None) (was refl))
  kept true true true false x y was same = refl
  kept true true false false x y was same = refl

  binned : (p whole then read in_bin reached : Bool) (x y : Snapshot) → cond (not reached) (cond (p && (whole && (not (not reached) && read))) (Some y) None) None ≡ cond (p && (whole && (not in_bin && then))) (cond (not reached && (not (not reached) && read)) (Some x) None) None
  binned false whole then read in_bin true x y = refl
  binned false whole then read in_bin false x y = refl
  binned true false then read in_bin true x y = refl
  binned true false then read in_bin false x y = refl
  binned true true then read true true x y = refl
  binned true true then read true false x y = refl
  binned true true true read false true x y = refl
  binned true true true read false false x y = refl
  binned true true false read false true x y = refl
  binned true true false read false false x y = refl

  by_end : (end : Option Moment) (p whole then read : Bool) (x y : Snapshot) → (read ≡ true → then ≡ true) → (whole ≡ true → y ≡ x)
      → cond (not (is_reached end t)) (cond (p && (whole && (not (is_in_bin end t) && read))) (Some y) None) None
      ≡ cond (p && (whole && (not (is_in_bin end c) && then))) (cond (not (is_reached end t) && (not (is_in_bin end t) && read)) (Some x) None) None
  by_end None p whole then read x y was same = kept p whole then read x y was same
  by_end (Some end) p whole then read x y was same =
      (λ i. cond (not (nat_le end.second t)) (cond (p && (whole && (not (one_of end.second t i) && read))) (Some y) None) None)
      ∙ binned p whole then read (nat_lt c end.second) (nat_le end.second t) x y
      ∙ (λ i. cond (p && (whole && (not (nat_lt c end.second) && then))) (cond (not (nat_le end.second t) && (not (sym (one_of end.second t) i) && read)) (Some x) None) None)

  module _ (account : ℕ) where
    same_later : (x : Snapshot) → x.row.completed ≡ true → shown (rested t x) ≡ shown x
    same_later x e = ap shown (rested-same t x (never_failed x.row.completed _ e))

    aged_seen : (b : Bool) (x : Snapshot) → seen_by_other account t (option_map (rested t) (cond b (Some x) None)) ≡ cond b (cond (is_shown_to account t x.row) (Some (shown (rested t x))) None) None
    aged_seen true x = refl
    aged_seen false x = refl

    filtered : (b : Bool) (s : Snapshot) → option_filter (keeps t) (cond b (Some s) None) ≡ cond b (cond (keeps t s) (Some s) None) None
    filtered true s = refl
    filtered false s = refl

    pub seen_later : (o : Option Snapshot) → seen_by_other account t (aged_row t o) ≡ option_filter (keeps t) (seen_by_other account c o)
    seen_later None = refl
    seen_later (Some x) =
        aged_seen (stays t x.row) x
        ∙ by_end x.row.bin_end (x.row.public || list_any (λ a. a == account) x.row.shared) x.row.completed (is_tier_read x.row.tier c) (is_tier_read x.row.tier t) (shown x) (shown (rested t x)) (was-read x.row.tier) (same_later x)
        ∙ sym (filtered (is_shown_to account c x.row) (shown x))

filtered-both : (r : Renaming) (t : ℕ) (o p : Option Snapshot) → Both (SameSnapshot r) o p → Both (SameSnapshot r) (option_filter (keeps t) o) (option_filter (keeps t) p)
filtered-both r t None None b = tt
filtered-both r t None (Some y) b = absurd b
filtered-both r t (Some x) None b = absurd b
filtered-both r t (Some x) (Some y) b = subst (λ row. Both (SameSnapshot r) (option_filter (keeps t) (Some x)) (option_filter (keeps t) (Some (record { row = row; array = y.array })))) (sym b.row) (at (keeps t x))
  where
    at : (v : Bool) → Both (SameSnapshot r) (cond v (Some x) None) (cond v (Some (record { row = x.row; array = y.array })) None)
    at true = record { row = refl; array = b.array }
    at false = tt

module _ (account : ℕ) (r : Renaming) (m : Machine) (n0 : Machine) (h : SameView account r m (twin m n0)) (now : Moment) (later : m.clock.second ≤ now.second) where
  abbrev t : ℕ
  t = now.second

  abbrev Alike : Option Snapshot → Option Snapshot → Type 0
  Alike o p = Both (SameSnapshot r) o p

  row_later : (key : SnapKey) (b : Bool) → owns account key ≡ b → Alike (seen_of account key t (aged_row t (fin.get m.snaps key))) (seen_of account key t (aged_row t (fin.get n0.snaps key)))
  row_later key true e =
      subst (λ o. Alike o (seen_of account key t (aged_row t (fin.get n0.snaps key)))) (sym (view-own account key t _ e))
      (subst (λ o. Alike (aged_row t (fin.get m.snaps key)) o) (sym (view-own account key t _ e)) (aged-both r t _ _ (own-rows account r m n0 h key e)))
  row_later key false e =
      subst (λ o. Alike o (seen_of account key t (aged_row t (fin.get n0.snaps key)))) (sym (view-other account key t _ e ∙ seen_later m.clock.second t later account _))
      (subst (λ o. Alike (option_filter (keeps t) (seen_by_other account m.clock.second (fin.get m.snaps key))) o) (sym (view-other account key t _ e ∙ seen_later m.clock.second t later account _))
      (filtered-both r t _ _ (other-rows account r m n0 h key e)))

  pub later-same : SameView account r (advance m now) (advance (twin m n0) now)
  later-same = record {
    renaming = h.renaming;
    snaps = λ key.
        subst (λ o. Alike (seen_of account key t o) (view account (advance (twin m n0) now) key)) (sym (get-aged t m.snaps key))
        (subst (λ o. Alike (seen_of account key t (aged_row t (fin.get m.snaps key))) (seen_of account key t o)) (sym (get-aged t n0.snaps key)) (row_later key (owns account key) refl));
    own = h.own;
    tokens = h.tokens;
    vols = h.vols;
    disks = h.disks;
    book = h.book;
    policies = h.policies;
  }
