-- The least move of a snapshot, among those from its first possible one on.
use Rattle.std.proofs.Common.{◌≡◌, ℕ, zero, suc, arith, Bool, true, false, ◌&&◌, cond, List, [], ◌∷◌, map, Option, Some, None, refl, sym, ap, subst, ◌∙◌, T}
use Rattle.std.specs.Prelude.{slice_get}
use Rattle.std.specs.List.{filter}
use Rattle.std.specs.declared.cmp.Ordering.{Ordering}
use Rattle.std.specs.declared.cmp.Ordering.TheVariants.{Less, Equal, Greater}
use Rattle.std.specs.Ordering.{nat_cmp, bool_cmp, ordering_then, ordering_reverse, is_le, is_lt}
use Rattle.std.specs.Cmp.{nat_cmp_is}
use Rattle.std.specs.FinMap.Entries.{is_sorted, below_all}
use Rattle.std.proofs.lemmas.Bool.{false≢true}
use Rattle.ebs_model.specs.declared.keys.SnapKey.{SnapKey}
use Rattle.ebs_model.specs.Keys.{snap_cmp}
use Rattle.ebs_model.specs.inner.Orders.{exact_snaps, snaps_total}
use Rattle.ebs_model.specs.Rows.{is_key}
use Rattle.ebs_model.proofs.RowLaws.{is_key-same, key_itself}
use Rattle.ebs_tier.specs.declared.moves.Wanted.{Wanted}
use Rattle.ebs_tier.specs.Waiting.{wanted_cmp, of_key}

abbrev pub Pairs : Type 0
Pairs = List (Wanted × Unit {0})

both_of : (a b : Bool) → T (a && b) → T a × T b
both_of true b h = (tt, h)
both_of false b h = absurd h

equal_greater : ◌≡◌ {A = Ordering} Equal Greater → ⊥
equal_greater e = cc

less_greater : ◌≡◌ {A = Ordering} Less Greater → ⊥
less_greater e = cc

module _ (key : SnapKey) where
  abbrev pub start : Wanted
  start = record { key = key; index = 0; to_archive = false }

  abbrev own : Wanted → Bool
  own w = is_key w.key key

  abbrev pub reached : Wanted → Bool
  reached w = is_le (wanted_cmp start w)

  same_itself : (k : SnapKey) → snap_cmp k k ≡ Equal
  same_itself k = by (snap_cmp k k) (snaps_total.antisymm k k)
    where
      by : (r : Ordering) → r ≡ ordering_reverse r → r ≡ Equal
      by Less e = absurd cc
      by Equal e = refl
      by Greater e = absurd cc

  -- a move of the snapshot isn't below the first possible one
  least_own : (n : ℕ) (b : Bool) → is_le (ordering_then (nat_cmp 0 n) (bool_cmp false b)) ≡ true
  least_own n b = by (nat_cmp 0 n) refl b
    where
      by : (r : Ordering) → nat_cmp 0 n ≡ r → (c : Bool) → is_le (ordering_then r (bool_cmp false c)) ≡ true
      by Less e c = refl
      by Equal e true = refl
      by Equal e false = refl
      by Greater e c = absurd (above n e)
        where
          above : (m : ℕ) → nat_cmp 0 m ≡ Greater → ⊥
          above zero e = equal_greater (nat_cmp_is 0 0 Equal refl ∙ e)
          above (suc m) e = less_greater (nat_cmp_is 0 (suc m) Less (omega arith) ∙ e)

  own_reached : (w : Wanted) → own w ≡ true → reached w ≡ true
  own_reached w e =
      subst (λ (r : Ordering). is_le (ordering_then r (ordering_then (nat_cmp 0 w.index) (bool_cmp false w.to_archive))) ≡ true) (sym (ap (snap_cmp key) (is_key-same w.key key e) ∙ same_itself key)) (least_own w.index w.to_archive)

  own_is : (w : Wanted) → w.key ≡ key → own w ≡ true
  own_is w e = ap (λ (k : SnapKey). is_key k key) e ∙ key_itself key

  -- behind one of another snapshot none of this one comes
  none_behind : (a b : Wanted) → reached a ≡ true → own a ≡ false → wanted_cmp a b ≡ Less → own b ≡ false
  none_behind a b r o l = first (snap_cmp key a.key) refl r
    where
      behind : (t : Ordering) → snap_cmp key a.key ≡ Less → b.key ≡ key → snap_cmp a.key b.key ≡ t → ordering_then t (ordering_then (nat_cmp a.index b.index) (bool_cmp a.to_archive b.to_archive)) ≡ Less → ⊥
      behind Less s k e h = less_greater (sym s ∙ snaps_total.antisymm key a.key ∙ ap ordering_reverse (ap (snap_cmp a.key) (sym k) ∙ e))
      behind Equal s k e h = false≢true (sym o ∙ own_is a (exact_snaps a.key b.key e ∙ k))
      behind Greater s k e h = absurd cc

      last : (u : Bool) → own b ≡ u → snap_cmp key a.key ≡ Less → own b ≡ false
      last true e s = absurd (behind (snap_cmp a.key b.key) s (is_key-same b.key key e) refl l)
      last false e s = e

      first : (t : Ordering) → snap_cmp key a.key ≡ t → is_le (ordering_then t (ordering_then (nat_cmp 0 a.index) (bool_cmp false a.to_archive))) ≡ true → own b ≡ false
      first Less e h = last (own b) refl e
      first Equal e h = absurd (false≢true (sym o ∙ own_is a (sym (exact_snaps key a.key e))))
      first Greater e h = absurd (false≢true h)

  abbrev pub firsts : Pairs → List Wanted
  firsts es = map (λ e. e.0) es

  abbrev pub picked : Pairs → Option Wanted
  picked [] = None
  picked (e ∷ es) = of_key e.0 key

  none : (a : Wanted) → reached a ≡ true → own a ≡ false → (es : Pairs) → T (below_all wanted_cmp a es) → filter own (firsts es) ≡ []
  none a r o [] h = refl
  none a r o (e ∷ es) h = ap (λ (b : Bool). cond b (e.0 ∷ filter own (firsts es)) (filter own (firsts es))) (none_behind a e.0 r o (is_less (wanted_cmp a e.0) (both_of _ _ h).0)) ∙ none a r o es (both_of _ _ h).1
    where
      is_less : (t : Ordering) → T (is_lt t) → t ≡ Less
      is_less Less h = refl
      is_less Equal h = absurd h
      is_less Greater h = absurd h

  pub least : (es : Pairs) → T (is_sorted wanted_cmp es) → picked (filter (λ e. reached e.0) es) ≡ slice_get (filter own (firsts es)) 0
  least [] h = refl
  least (e ∷ es) h = by (reached e.0) refl (own e.0) refl (least es (both_of _ _ h).1)
    where
      by : (q : Bool) → reached e.0 ≡ q → (p : Bool) → own e.0 ≡ p → picked (filter (λ e. reached e.0) es) ≡ slice_get (filter own (firsts es)) 0
          → picked (cond q (e ∷ filter (λ e. reached e.0) es) (filter (λ e. reached e.0) es)) ≡ slice_get (cond p (e.0 ∷ filter own (firsts es)) (filter own (firsts es))) 0
      by true r true o rest = ap (λ (b : Bool). cond b (Some e.0) None) o
      by true r false o rest = ap (λ (b : Bool). cond b (Some e.0) None) o ∙ ap (λ (ws : List Wanted). slice_get ws 0) (sym (none e.0 r o es (both_of _ _ h).0))
      by false r true o rest = absurd (false≢true (sym r ∙ own_reached e.0 o))
      by false r false o rest = rest
