-- The limits of snapshots' rows, through each change.
use Rattle.std.proofs.Common.{◌≡◌, ℕ, ◌+◌, ◌*◌, ◌<◌, ◌≤◌, arith, Bool, true, false, cond, max, nat_le, List, [], ◌∷◌, map, Option, Some, None, refl, sym, ap, subst, ◌∙◌}
use Rattle.std.specs.Prelude.{unwrap_or}
use Rattle.std.proofs.lemmas.Bool.Decides.{nat_tests}
use Rattle.std.proofs.lemmas.Int.{clamps, ints}
use Rattle.std.specs.List.{AllByRecursion}
use Rattle.std.specs.Ordering.{nat_cmp}
use Rattle.std.specs.Cmp.{nat_cmp_total}
use Rattle.std.specs.FinMap.{FinMap, nat_cmp-IsAntisymmetric, get, insert, empty, entries, get-empty}
use Rattle.ebs_model.specs.declared.keys.SnapKey.{SnapKey}
use Rattle.ebs_model.specs.declared.keys.VolKey.{VolKey}
use Rattle.ebs_model.specs.declared.keys.PolicyKey.{PolicyKey}
use Rattle.ebs_model.specs.declared.keys.Moment.{Moment}
use Rattle.ebs_model.specs.declared.tags.Tag.{Tag}
use Rattle.ebs_model.specs.declared.rules.Rule.{Rule}
use Rattle.ebs_model.specs.declared.rows.Line.{Line}
use Rattle.ebs_model.specs.declared.rows.SnapRow.{SnapRow}
use Rattle.ebs_model.specs.declared.rows.VolRow.{VolRow}
use Rattle.ebs_model.specs.inner.Orders.{snaps_total, exact_snaps}
use Rattle.ebs_model.specs.Quotas.{last_second, blocks_of}
use Rattle.ebs_model.specs.Limits.{is_retention, is_size, is_timeout, is_description, are_tags}
use Rattle.ebs_model.specs.Time.{status_by, status_at, is_pending}
use Rattle.ebs_model.specs.Rules.{Book, no_rules, matches, longer, longest, retention, bin_end}
use Rattle.ebs_model.specs.Rows.{Rows, book_of}
use Rattle.ebs_model.specs.Calls.Start.{next_key, started_row, line_of}
use Rattle.ebs_model.specs.Calls.Put.{put_row}
use Rattle.ebs_model.specs.Calls.Delete.{days_in_bin}
use Rattle.ebs_model.specs.Calls.Disk.{snapped_row}
use Rattle.ebs_lawful.specs.Snapshots.{IsSharing, IsSnapRow, AreSnapRows}
use Rattle.ebs_lawful.specs.Volumes.{AreVolRows}
use Rattle.ebs_lawful.specs.Rules.{IsBook, AreBooks}
use Rattle.ebs_lawful.specs.Policies.{ArePolicies}
use Rattle.ebs_lawful.proofs.Maps.{some_is, none_some, each-insert, each-remove, each-entry}
use Rattle.ebs_lawful.proofs.Members.{both, four}
use Rattle.ebs_lawful.proofs.Effects.{IsAltered, got_block, was_completed, was_binned, was_shared, was_locked, was_moved, was_recovered, was_freed, IsEffect, left_all, altered, taken_out, started, snapped, created, dropped, commanded, planned, unplanned, ran}
use Rattle.ebs_lawful.proofs.Ran.{ran_each}

-- ---- a stay in the bin has so many days at most

retention-most : (days : ℕ) → is_retention days ≡ true → days ≤ 365
retention-most days e = grind (arith, nat_tests)

longest-most : (tags : List Tag) (es : List (ℕ × Rule)) → AllByRecursion (λ (e : ℕ × Rule). e.1.days ≤ 365) es → (days : ℕ) → longest tags (map (λ e. e.1) es) ≡ Some days → days ≤ 365
longest-most tags [] h days e = none_some e
longest-most tags (x ∷ es) h days e = by (matches x.1.tags tags) (longest tags (map (λ e. e.1) es)) (longest-most tags es h.1) e
  where
    by : (b : Bool) (rest : Option ℕ) → ((n : ℕ) → rest ≡ Some n → n ≤ 365) → cond b (longer rest x.1.days) rest ≡ Some days → days ≤ 365
    by true None f q = let is : x.1.days ≡ days = some_is x.1.days days q in let few : x.1.days ≤ 365 = h.0 in omega (arith, is, few)
    by true (Some n) f q = let is : max n x.1.days ≡ days = some_is (max n x.1.days) days q in let few : x.1.days ≤ 365 = h.0 in let rest : n ≤ 365 = f n refl in omega (arith, ints, clamps, is, few, rest)
    by false rest f q = f days q

book-most : (account : ℕ) (o : Option Book) → ((b : Book) → o ≡ Some b → IsBook account b) → (tags : List Tag) (days : ℕ) → retention (unwrap_or o (no_rules 0)) tags ≡ Some days → days ≤ 365
book-most account o h tags days e = longest-most tags (entries (unwrap_or o (no_rules 0)).rules) (each-entry nat_cmp_total (unwrap_or o (no_rules 0)).rules (λ e. e.1.days ≤ 365) (λ r there. few o h r.0 r.1 there)) days e
  where
    few : (o : Option Book) → ((b : Book) → o ≡ Some b → IsBook account b) → (number : ℕ) (rule : Rule) → get (unwrap_or o (no_rules 0)).rules number ≡ Some rule → rule.days ≤ 365
    few None h number rule there = none_some (sym (get-empty {X = Rule} nat_cmp number) ∙ there)
    few (Some b) h number rule there = retention-most rule.days ((h b refl).rules number rule there).days

days-most : (rows : Rows) → AreBooks rows → (key : SnapKey) (row : SnapRow) (days : ℕ) → days_in_bin rows key row ≡ Some days → (row.completed ≡ true) × (days ≤ 365)
days-most rows books key row days e = by row.completed refl e
  where
    by : (b : Bool) → row.completed ≡ b → cond b (retention (book_of rows key.account) row.tags) None ≡ Some days → (row.completed ≡ true) × (days ≤ 365)
    by true is e = (is, book-most key.account (get rows.books key.account) (λ b. books key.account b) row.tags days e)
    by false is e = none_some e

-- ---- a row that is altered

true_false : {A : Type 0} → true ≡ false → A
true_false e = absurd (cc)

false_true : {A : Type 0} → false ≡ true → A
false_true e = absurd (cc)

-- what is pending isn't completed
pending-open : {A : Type 0} (row : SnapRow) (now : ℕ) → is_pending (status_at row now) ≡ true → row.completed ≡ true → A
pending-open row now pending is = false_true (sym (ap (λ (c : Bool). is_pending (status_by c (nat_le (row.last.second + 60 * row.timeout) now))) is) ∙ pending)

one_more : (put : FinMap nat_cmp (Unit {0})) (index most : ℕ) → index < most → ((i : ℕ) → get put i ≡ Some tt → i < most) → (i : ℕ) → get (insert put index tt) i ≡ Some tt → i < most
one_more put index most below each i e = each-insert (λ (i : ℕ) (u : Unit {0}). i < most) nat_cmp_total nat_cmp-IsAntisymmetric put (λ i u e. each i e) index tt below i tt e

module _ (rows : Rows) (at : Moment) (early : at.second ≤ last_second) (books : AreBooks rows) (key : SnapKey) (row : SnapRow) (h : IsSnapRow key row) where
  put-fits : (index : ℕ) → is_pending (status_at row at.second) ≡ true → index < blocks_of row.size → IsSnapRow key (put_row at index row)
  put-fits index pending below = record {
    place = h.place;
    size = h.size;
    start = h.start;
    last = early;
    timeout = h.timeout;
    description = h.description;
    tags = h.tags;
    shared = h.shared;
    lock = h.lock;
    tier = h.tier;
    bin_end = h.bin_end;
    put = one_more row.put index (blocks_of row.size) below h.put;
    upload = λ e. let was = h.upload e in record { volume = was.volume; bin_end = was.bin_end; tier = was.tier };
    completed = λ e. pending-open row at.second pending e;
  }

  completed-fits : IsSnapRow key (record row { completed = true; put = empty })
  completed-fits = record {
    place = h.place;
    size = h.size;
    start = h.start;
    last = h.last;
    timeout = h.timeout;
    description = h.description;
    tags = h.tags;
    shared = h.shared;
    lock = h.lock;
    tier = h.tier;
    bin_end = h.bin_end;
    put = λ i e. none_some (sym (get-empty {X = Unit {0}} nat_cmp i) ∙ e);
    upload = λ e. true_false e;
    completed = λ e. refl;
  }

  binned-fits : (days : ℕ) → days_in_bin rows key row ≡ Some days → IsSnapRow key (record row { bin_end = Some (bin_end at.second days) })
  binned-fits days stays =
      let known = days-most rows books key row days stays in
      let few : days ≤ 365 = known.1 in record {
        place = h.place;
        size = h.size;
        start = h.start;
        last = h.last;
        timeout = h.timeout;
        description = h.description;
        tags = h.tags;
        shared = h.shared;
        lock = h.lock;
        tier = h.tier;
        put = h.put;
        completed = h.completed;
        bin_end = omega (arith, few, early);
        upload = λ e. true_false (sym known.0 ∙ e);
      }

  shared-fits : (shared : List ℕ) (public : Bool) → IsSharing shared → IsSnapRow key (record row { shared = shared; public = public })
  shared-fits shared public fits = record {
    place = h.place;
    size = h.size;
    start = h.start;
    last = h.last;
    timeout = h.timeout;
    description = h.description;
    tags = h.tags;
    shared = fits;
    lock = h.lock;
    tier = h.tier;
    bin_end = h.bin_end;
    put = h.put;
    completed = h.completed;
    upload = λ e. let was = h.upload e in record { volume = was.volume; bin_end = was.bin_end; tier = was.tier };
  }

  altered-fits : (next : SnapRow) → IsAltered rows at key row next → IsSnapRow key next
  altered-fits next (got_block index pending below is) = subst (IsSnapRow key) (sym is) (put-fits index pending below)
  altered-fits next (was_completed is) = subst (IsSnapRow key) (sym is) completed-fits
  altered-fits next (was_binned days stays is) = subst (IsSnapRow key) (sym is) (binned-fits days stays)
  altered-fits next (was_shared shared public fits is) = subst (IsSnapRow key) (sym is) (shared-fits shared public fits)
  altered-fits next (was_locked lock ends is) = subst (IsSnapRow key) (sym is) (record {
    place = h.place;
    size = h.size;
    start = h.start;
    last = h.last;
    timeout = h.timeout;
    description = h.description;
    tags = h.tags;
    shared = h.shared;
    lock = ends h.lock;
    tier = h.tier;
    bin_end = h.bin_end;
    put = h.put;
    completed = h.completed;
    upload = λ e. let was = h.upload e in record { volume = was.volume; bin_end = was.bin_end; tier = was.tier };
  })
  altered-fits next (was_moved tier done ends is) = subst (IsSnapRow key) (sym is) (record {
    place = h.place;
    size = h.size;
    start = h.start;
    last = h.last;
    timeout = h.timeout;
    description = h.description;
    tags = h.tags;
    shared = h.shared;
    lock = h.lock;
    tier = ends;
    bin_end = h.bin_end;
    put = h.put;
    completed = h.completed;
    upload = λ e. true_false (sym done ∙ e);
  })
  altered-fits next (was_recovered is) = subst (IsSnapRow key) (sym is) (record {
    place = h.place;
    size = h.size;
    start = h.start;
    last = h.last;
    timeout = h.timeout;
    description = h.description;
    tags = h.tags;
    shared = h.shared;
    lock = h.lock;
    tier = h.tier;
    bin_end = tt;
    put = h.put;
    completed = h.completed;
    upload = λ e. let was = h.upload e in record { volume = was.volume; bin_end = refl; tier = was.tier };
  })
  altered-fits next (was_freed is) = subst (IsSnapRow key) (sym is) (record {
    place = h.place;
    size = h.size;
    start = h.start;
    last = h.last;
    timeout = h.timeout;
    description = h.description;
    tags = h.tags;
    shared = h.shared;
    lock = h.lock;
    tier = h.tier;
    bin_end = h.bin_end;
    put = h.put;
    completed = h.completed;
    upload = λ e. let was = h.upload e in record { volume = was.volume; bin_end = was.bin_end; tier = was.tier };
  })

-- ---- a row that is made

module _ (at : Moment) (early : at.second ≤ last_second) (key : SnapKey) where
  started-fits : (size : ℕ) (parent : Option SnapKey) (line : Line) (description : Option (List ℕ)) (tags : List Tag) (timeout : ℕ)
      → is_size size ≡ true → is_description description ≡ true → are_tags tags ≡ true → is_timeout timeout ≡ true → IsSnapRow key (started_row at key size parent line description tags timeout)
  started-fits size parent line description tags timeout sized told tagged timed = record {
    place = refl;
    size = sized;
    start = early;
    last = early;
    timeout = timed;
    description = told;
    tags = tagged;
    shared = record { few = omega arith; ascend = refl };
    lock = tt;
    tier = tt;
    bin_end = tt;
    put = λ i e. none_some (sym (get-empty {X = Unit {0}} nat_cmp i) ∙ e);
    upload = λ e. record { volume = refl; bin_end = refl; tier = refl };
    completed = λ e. false_true e;
  }

  snapped-fits : (volume : VolKey) (row : VolRow) (description : Option (List ℕ)) (tags : List Tag) (policy : Option PolicyKey)
      → is_size row.size ≡ true → is_description description ≡ true → are_tags tags ≡ true → IsSnapRow key (record (snapped_row at key volume row description tags) { policy = policy })
  snapped-fits volume row description tags policy sized told tagged = record {
    place = refl;
    size = sized;
    start = early;
    last = early;
    timeout = refl;
    description = told;
    tags = tagged;
    shared = record { few = omega arith; ascend = refl };
    lock = tt;
    tier = tt;
    bin_end = tt;
    put = λ i e. none_some (sym (get-empty {X = Unit {0}} nat_cmp i) ∙ e);
    upload = λ e. true_false e;
    completed = λ e. refl;
  }

-- ---- a change

module _ (rows : Rows) (at : Moment) (account : ℕ) (early : at.second ≤ last_second) (snaps : AreSnapRows rows) (vols : AreVolRows rows) (books : AreBooks rows) (policies : ArePolicies rows) where
  put_in : (key : SnapKey) (row : SnapRow) → IsSnapRow key row → (q : SnapKey) (x : SnapRow) → get (insert rows.snaps key row) q ≡ Some x → IsSnapRow q x
  put_in key row fits = each-insert IsSnapRow snaps_total exact_snaps rows.snaps snaps key row fits

  pub snaps-kept : (new : Rows) → IsEffect rows at account new → AreSnapRows new
  snaps-kept new (left_all is) = subst AreSnapRows (sym is) snaps
  snaps-kept new (altered key row next there how is) = subst AreSnapRows (sym is) (put_in key next (altered-fits rows at early books key row (snaps key row there) next how))
  snaps-kept new (taken_out key is) = subst AreSnapRows (sym is) (each-remove IsSnapRow snaps_total exact_snaps rows.snaps snaps key)
  snaps-kept new (started size parent description tags token timeout of is) =
      let key : SnapKey = next_key rows account in
      let good = four _ _ _ _ _ _ _ _ of.members in
      subst AreSnapRows (sym is) (put_in key (started_row at key size parent (line_of rows.snaps key parent) description tags timeout) (started-fits at early key size parent _ description tags timeout of.sized good.0 good.1 good.3))
  snaps-kept new (snapped volume row description tags of is) =
      let key : SnapKey = next_key rows account in
      let one = both _ _ _ of.members in
      subst AreSnapRows (sym is) (put_in key (snapped_row at key volume row description tags) (snapped-fits at early key volume row description tags None (vols volume row of.found).size one.0 (both _ _ _ one.1).0))
  snaps-kept new (created origin size tags token of is) = subst AreSnapRows (sym is) snaps
  snaps-kept new (dropped key is) = subst AreSnapRows (sym is) snaps
  snaps-kept new (commanded command change fits taken is) = subst AreSnapRows (sym is) snaps
  snaps-kept new (planned targets hours time retain add of is) = subst AreSnapRows (sym is) snaps
  snaps-kept new (unplanned key is) = subst AreSnapRows (sym is) snaps
  snaps-kept new (ran key p of is) = subst AreSnapRows (sym is) (ran_each IsSnapRow rows at key p
      (λ q row next how h. altered-fits rows at early books q row h next how)
      (λ first e fresh mine. snapped-fits at early first e.0 e.1 None p.add (Some key) (vols e.0 e.1 mine.there).size refl (policies key p of.found).add)
      snaps)
