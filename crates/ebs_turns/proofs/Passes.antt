-- The steps that count, split and join passes keep the rule, and so does the table at its start.
use Rattle.std.proofs.Common.{◌≡◌, ◌≢◌, ◌⊎◌, ℕ, zero, suc, Bool, true, false, Option, Some, None, cond, nat_lt, ◌+◌, ◌-◌, ◌%◌, ◌^◌, ◌<◌, ◌≤◌, List, [], ◌∷◌, length, get_or, set, refl, ap, sym, ◌∙◌, subst, true≢false, ⊎_elim, inl, inr, arith, sum_by, length-set, get_or-set_other, get_or-set_same, ◌==◌}
use mathlib.Core.Option.{none, some, some-injective, some-ne-none}
use mathlib.Core.List.{IsPrefix}
use mathlib.Core.Logic.{dite}
use native.Mathlib.Decide.{ℕ_discrete, dec_le}
use lib.ListN.{get_elem?}
use Rattle.atomic_table.specs.Table.{State, Me, step, keeps, Allows, Splits, Joins, opening, Final, Seen}
use Rattle.atomic_table.proofs.Lists.{at_set, set_else, at_longer}
use Rattle.std.proofs.lemmas.List.Sums.{sum_by_push, sum_by-cons}
use Rattle.std.proofs.lemmas.Bool.{lt-ltb, le-ltb}
use Rattle.ebs_turns.specs.declared.line.Left.{Left}
use Rattle.ebs_turns.specs.declared.line.Turn.{Turn}
use Rattle.ebs_turns.specs.declared.seats.Opening.{Opening}
use Rattle.ebs_turns.specs.declared.seats.Place.{Place}
use Rattle.ebs_turns.specs.declared.seats.Place.TheVariants.{Home}
use Rattle.ebs_turns.specs.declared.seats.View.{View}
use Rattle.ebs_turns.specs.Line.{turns_of, turns_on, is_on, is_out}
use Rattle.ebs_turns.specs.Known.{Leaves}
use Rattle.ebs_turns.specs.Rule.{may_of, tally_of, held_of, refused_of, first_seat, SeatOk, Apart, AtHome, IsOut, Kept}
use Rattle.ebs_turns.specs.Tells.{with_number, with_refusal, undone, split_left, split_right, longer, shorter, joined, spent, found_alone, found_others, counted, uncounted, told, viewed}
use Rattle.ebs_turns.proofs.Lines.{none_before, between, prefix_shorter, whole_prefix}
use Rattle.ebs_turns.proofs.Views.{each_set, pairs_set, each_push, pairs_push, sum_set, sum_le, sum_at, sum_two, set_at, persists}
use Rattle.ebs_turns.proofs.Steps.{apart_turned, set_same, quiet, same_tickets, loaded, stays_home, stays_witnessed, same_leases, stays_held, one_opening}

not_true : (b : Bool) → ¬ (b ≡ true) → b ≡ false
not_true true n = absurd (n refl)
not_true false n = refl

module _ {T I : Type 0} (follows : T → List (Turn I) → T → Type 0) (about : Opening T) where
  abbrev V : Type 0
  V = View T I

  abbrev St : Type 0
  St = State (Place T I) V

  abbrev M : Type 0
  M = Me (Place T I) V

  abbrev Rule : St → Type 0
  Rule = Kept follows about

  -- a seat that is alone has no other beside it
  no_other : (s : St) (r : Rule s) (id j : ℕ) (v u : V) → get_elem? s.views id ≡ some v → 1 ≤ v.tally → j ≢ id → get_elem? s.views j ≡ some u → u.alone ≡ 1 → ⊥
  no_other s r id j v u at live n e alone = let two = sum_two tally_of s.views j id u v n e at in let a = (r.each j u e).counts.alone_is alone in let d = r.drawn_is in let w = r.passes_is in omega arith

  -- a step of one seat on the word of passes
  recounts : (s : St) (r : Rule s) (id : ℕ) (v w : V) (words' : List ℕ) (drawn' : ℕ) → get_elem? s.views id ≡ some v → 1 ≤ v.tally → w.tally ≡ v.tally → w.may ≡ v.may → w.stage ≡ v.stage → w.ticket ≡ v.ticket → w.number ≡ v.number → w.seen ≡ v.seen → w.lease ≡ v.lease
      → length words' ≡ 3 → get_or words' 0 0 ≡ get_or s.words 0 0 → get_or words' 1 0 ≡ get_or s.words 1 0 → r.drawn ≤ drawn'
      → sum_by tally_of (set s.views id w) + sum_by held_of (set s.views id w) ≡ drawn' → drawn' ≤ about.passes → get_or words' 2 0 ≡ drawn' + sum_by refused_of (set s.views id w)
      → (1 ≤ sum_by refused_of (set s.views id w) → drawn' ≡ about.passes)
      → SeatOk about (get_or s.words 0 0) (get_or words' 2 0) drawn' r.line w
      → ((j : ℕ) (u : V) → j ≢ id → get_elem? s.views j ≡ some u → 1 ≤ w.held → (1 ≤ u.tally → w.next ≢ u.number) × (1 ≤ u.held → w.next ≢ u.next))
      → Rule record { words = words'; homes = s.homes; views = set s.views id w }
  recounts s r id v w words' drawn' at live tally may stage ticket number seen lease wide word0 word1 more drawn_is few counted full here apart = record {
    line = r.line;
    drawn = drawn';
    wide = wide;
    deep = r.deep;
    serving = word1 ∙ r.serving;
    queue = (let q = r.queue in omega arith);
    few_passes = r.few_passes;
    room = (let e = set_same may_of s.views id v w at may in let q = r.room in omega arith);
    drawn_is = drawn_is;
    drawn_few = few;
    passes_is = counted;
    full = full;
    fresh = λ n le. r.fresh n (omega arith);
    each = subst (λ (tickets : ℕ). (j : ℕ) (u : V) → get_elem? (set s.views id w) j ≡ some u → SeatOk about tickets (get_or words' 2 0) drawn' r.line u) (sym word0)
        (each_set (λ _ u. SeatOk about (get_or s.words 0 0) (get_or words' 2 0) drawn' r.line u) s.views id w here (λ j u n e. let k = r.each j u e in record {
          about_is = k.about_is;
          begins = k.begins;
          met = k.met;
          waits = k.waits;
          turn = k.turn;
          few = k.few;
          live = k.live;
          own = k.own;
          leased = k.leased;
          dealt = k.dealt;
          lease_live = k.lease_live;
          counts = record {
            number_drawn = λ p. let c = k.counts.number_drawn p in omega arith;
            one_count = k.counts.one_count;
            live_count = k.counts.live_count;
            next_drawn = λ p. let c = k.counts.next_drawn p in omega arith;
            next_new = k.counts.next_new;
            unused = k.counts.unused;
            alone_is = λ p. absurd (no_other s r id j v u at live n e p);
          };
        }));
    pairs = pairs_set Apart s.views id w apart_turned
        (λ j u n e. let a = r.pairs id j v u (λ z. n (sym z)) at e in record {
          tickets = λ p q z. a.tickets (omega arith) q (sym ticket ∙ z);
          numbers = λ p q z. a.numbers live q (sym number ∙ z);
          number_next = λ p q z. a.number_next live q (sym number ∙ z);
          next_number = λ p q. (apart j u n e p).0 q;
          nexts = λ p q. (apart j u n e p).1 q;
          leases = same_leases follows about s r id v w at lease j u n e;
        }) r.pairs;
    home = stays_home follows about r.line s words' id v w at (λ p. omega arith) (λ p. omega arith) r.home;
    witness = stays_witnessed follows about r.line s words' s.homes id v w at tally seen r.witness;
    all_held = stays_held follows about s words' s.homes id v w at lease r.line r.all_held;
  }

  -- a pass is counted
  pub counts : (slots id : ℕ) (me : M) → 1 ≤ me.0.tally → me.0.held ≡ 0 → me.0.refused ≡ 0 → Allows Rule slots id me 2 (λ n. (n + 1) % 2 ^ 64) (counted (step slots 2 1 0 none) me)
  counts slots id me live held refused s r deep at fits = let v : V = me.0 in let x : ℕ = get_or s.words 2 0 in let y : ℕ = (x + 1) % 18446744073709551616 in let k = r.each id v at in let wide = r.wide in
      let made = r.passes_is in let drawn = r.drawn_is in let few = r.drawn_few in let little = r.few_passes in
      let le = sum_le refused_of tally_of s.views (λ j u e. let c = (r.each j u e).counts.live_count in omega arith) in let small : y ≡ x + 1 = omega arith in
      let words' : List ℕ = set s.words 2 y in let word0 = get_or-set_other s.words 2 0 y 0 (λ e. omega arith) in let word1 = get_or-set_other s.words 2 1 y 0 (λ e. omega arith) in let word2 = get_or-set_same s.words 2 y 0 (omega arith) in
      dite (dec_le about.passes x)
      (λ full. let w : V = with_refusal x v in let t = set_same tally_of s.views id v w at refl in let h = set_same held_of s.views id v w at refl in let f = sum_set refused_of s.views id v w at in
      let all : r.drawn ≡ about.passes = dite (dec_le 1 (sum_by refused_of s.views)) (λ p. r.full p) (λ p. omega arith) in (
        w,
        keeps,
        tt,
        recounts s r id v w words' r.drawn at live refl refl refl refl refl refl refl (length-set s.words 2 y ∙ wide) word0 word1 (omega arith) (omega arith) few (omega arith) (λ _. all)
            (record {
              about_is = k.about_is;
              begins = k.begins;
              met = k.met;
              waits = k.waits;
              turn = k.turn;
              few = k.few;
              live = k.live;
              own = k.own;
              leased = k.leased;
              dealt = k.dealt;
              lease_live = k.lease_live;
              counts = record { number_drawn = k.counts.number_drawn; one_count = omega arith; live_count = omega arith; next_drawn = k.counts.next_drawn; next_new = k.counts.next_new; unused = k.counts.unused; alone_is = λ p. absurd (omega arith) };
            })
            (λ j u n e p. absurd (omega arith)),
        (refl, λ a e. let is : about.passes ≡ a.passes = ap (λ (o : Opening T). o.passes) (one_opening v.about about a (k.about_is live) e) in ((λ l. absurd (omega arith)), λ _. refl)),
      ))
      (λ room. let w : V = with_number x v in let t = set_same tally_of s.views id v w at refl in let h = sum_set held_of s.views id v w at in let f = set_same refused_of s.views id v w at refl in
      let none_refused : sum_by refused_of s.views ≡ 0 = dite (dec_le 1 (sum_by refused_of s.views)) (λ p. let q = r.full p in absurd (omega arith)) (λ p. omega arith) in let is : x ≡ r.drawn = omega arith in
      let empty : turns_of x r.line ≡ [] = r.fresh x (omega arith) in let mine = k.counts.number_drawn live in (
        w,
        keeps,
        tt,
        recounts s r id v w words' (r.drawn + 1) at live refl refl refl refl refl refl refl (length-set s.words 2 y ∙ wide) word0 word1 (omega arith) (omega arith) (omega arith) (omega arith) (λ p. absurd (omega arith))
            (record {
              about_is = k.about_is;
              begins = k.begins;
              met = k.met;
              waits = k.waits;
              turn = k.turn;
              few = k.few;
              live = k.live;
              own = k.own;
              leased = k.leased;
              dealt = k.dealt;
              lease_live = k.lease_live;
              counts = record { number_drawn = λ p. omega arith; one_count = omega arith; live_count = omega arith; next_drawn = λ p. omega arith; next_new = λ p z. omega arith; unused = λ p. empty; alone_is = λ p. absurd (omega arith) };
            })
            (λ j u n e p. let c = (r.each j u e).counts in ((λ q z. let d = c.number_drawn q in omega arith), λ q z. let d = c.next_drawn q in omega arith)),
        (
          refl,
          λ a e. let is : about.passes ≡ a.passes = ap (λ (o : Opening T). o.passes) (one_opening v.about about a (k.about_is live) e) in
              ((λ _. (refl, (λ z. omega arith), none_before (λ q. x == q.by) v.seen r.line k.begins empty)), λ l. absurd (room (omega arith))),
        ),
      ))

  -- a refused count is undone
  pub uncounts : (slots id : ℕ) (me : M) → 1 ≤ me.0.tally → me.0.refused ≡ 1 → Allows Rule slots id me 2 (λ n. (n + (2 ^ 64 - 1)) % 2 ^ 64) (uncounted (step slots 2 1 0 none) me)
  uncounts slots id me live refused s r deep at fits = let v : V = me.0 in let x : ℕ = get_or s.words 2 0 in let y : ℕ = (x + 18446744073709551615) % 18446744073709551616 in let k = r.each id v at in let wide = r.wide in
      let made = r.passes_is in let drawn = r.drawn_is in let one = sum_at refused_of s.views id v at in let small : y + 1 ≡ x = omega arith in
      let words' : List ℕ = set s.words 2 y in let word0 = get_or-set_other s.words 2 0 y 0 (λ e. omega arith) in let word1 = get_or-set_other s.words 2 1 y 0 (λ e. omega arith) in let word2 = get_or-set_same s.words 2 y 0 (omega arith) in
      let w : V = undone v in let t = set_same tally_of s.views id v w at refl in let h = set_same held_of s.views id v w at refl in let f = sum_set refused_of s.views id v w at in let c = k.counts.one_count in (
        w,
        keeps,
        tt,
        recounts s r id v w words' r.drawn at live refl refl refl refl refl refl refl (length-set s.words 2 y ∙ wide) word0 word1 (omega arith) (omega arith) r.drawn_few (omega arith) (λ p. r.full (omega arith))
            (record {
              about_is = k.about_is;
              begins = k.begins;
              met = k.met;
              waits = k.waits;
              turn = k.turn;
              few = k.few;
              live = k.live;
              own = k.own;
              leased = k.leased;
              dealt = k.dealt;
              lease_live = k.lease_live;
              counts = record { number_drawn = k.counts.number_drawn; one_count = omega arith; live_count = omega arith; next_drawn = k.counts.next_drawn; next_new = k.counts.next_new; unused = k.counts.unused; alone_is = λ p. let a = k.counts.alone_is p in omega arith };
            })
            (λ j u n e p. absurd (omega arith)),
        (refl, refl),
      )

  -- a look at how many passes were made
  pub views : (slots id : ℕ) (me : M) → 1 ≤ me.0.tally → Allows Rule slots id me 2 (λ n. n) (viewed (step slots 2 0 0 none) me)
  views slots id me live s r deep at fits = let v : V = me.0 in let x : ℕ = get_or s.words 2 0 in let k = r.each id v at in dite (dec_le x v.tally)
      (λ low. let w : V = found_alone x v in (
        w,
        keeps,
        tt,
        loaded follows about s 2 id s.homes w (quiet follows about s r id v w s.words at (record { tally = refl; held = refl; refused = refl; number = refl; next = refl }) refl refl r.wide refl refl (omega arith)
            (let e = set_same may_of s.views id v w at refl in let old = r.room in omega arith)
            (record {
              about_is = k.about_is;
              begins = k.begins;
              met = k.met;
              waits = k.waits;
              turn = k.turn;
              few = k.few;
              live = k.live;
              own = k.own;
              leased = k.leased;
              dealt = k.dealt;
              lease_live = k.lease_live;
              counts = record { number_drawn = k.counts.number_drawn; one_count = k.counts.one_count; live_count = k.counts.live_count; next_drawn = k.counts.next_drawn; next_new = k.counts.next_new; unused = k.counts.unused; alone_is = λ _. low };
            })
            (same_tickets follows about s r id v w at refl (λ p. p)) (λ p. p) (λ p. p)),
        (refl, (λ _. refl), λ l. absurd (omega arith)),
      ))
      (λ high. let w : V = found_others x v in (
        w,
        keeps,
        tt,
        loaded follows about s 2 id s.homes w (quiet follows about s r id v w s.words at (record { tally = refl; held = refl; refused = refl; number = refl; next = refl }) refl refl r.wide refl refl (omega arith)
            (let e = set_same may_of s.views id v w at refl in let old = r.room in omega arith)
            (record { about_is = k.about_is; begins = k.begins; met = k.met; waits = k.waits; turn = k.turn; few = k.few; live = k.live; own = k.own; leased = k.leased; dealt = k.dealt; lease_live = k.lease_live; counts = k.counts })
            (same_tickets follows about s r id v w at refl (λ p. p)) (λ p. p) (λ p. p)),
        (refl, (λ l. absurd (high l)), λ _. refl),
      ))

  -- a look once two seats met
  pub tells : (slots id : ℕ) (me : M) → 1 ≤ me.0.tally → length me.0.met ≤ length me.0.seen → Allows Rule slots id me 0 (λ n. n) (told (step slots 0 0 0 none) me)
  tells slots id me live shorter_one s r deep at fits = let v : V = me.0 in let k = r.each id v at in
      let one = sum_at tally_of s.views id v at in let drawn = r.drawn_is in let few = r.drawn_few in let little = r.few_passes in (
        v,
        keeps,
        tt,
        loaded follows about s 0 id s.homes v (quiet follows about s r id v v s.words at (record { tally = refl; held = refl; refused = refl; number = refl; next = refl }) refl refl r.wide refl refl (omega arith)
            (let e = set_same may_of s.views id v v at refl in let old = r.room in omega arith) k (same_tickets follows about s r id v v at refl (λ p. p)) (λ p. p) (λ p. p)),
        (refl, prefix_shorter v.met v.seen r.line k.met k.begins shorter_one, λ a e. let is : about.passes ≡ a.passes = ap (λ (o : Opening T). o.passes) (one_opening v.about about a (k.about_is live) e) in (omega arith, omega arith)),
      )

  -- a seat is split
  pub splits : (id : ℕ) (v : V) → 1 ≤ v.tally → v.held ≡ 1 → Splits Rule id v (split_left v) (split_right v)
  splits id v live held s r at = let l : V = split_left v in let o : V = split_right v in let k = r.each id v at in let vs : List V = set s.views id l in let c = k.counts in
      let fm = sum_by_push may_of vs o in let ft = sum_by_push tally_of vs o in let fh = sum_by_push held_of vs o in let fr = sum_by_push refused_of vs o in
      let sm = set_same may_of s.views id v l at refl in let stt = set_same tally_of s.views id v l at refl in let sh = sum_set held_of s.views id v l at in let sr = set_same refused_of s.views id v l at refl in
      let room = r.room in let drawn = r.drawn_is in let made = r.passes_is in let unused = c.unused (omega arith) in record {
        line = r.line;
        drawn = r.drawn;
        wide = r.wide;
        deep = r.deep;
        serving = r.serving;
        queue = r.queue;
        few_passes = r.few_passes;
        room = omega arith;
        drawn_is = omega arith;
        drawn_few = r.drawn_few;
        passes_is = omega arith;
        full = λ p. r.full (omega arith);
        fresh = r.fresh;
        each = each_push (λ _ u. SeatOk about (get_or s.words 0 0) (get_or s.words 2 0) r.drawn r.line u) vs o
            (record {
              about_is = λ _. k.about_is live;
              begins = k.begins;
              met = (r.line, refl);
              waits = λ p. absurd (omega arith);
              turn = λ p. absurd (omega arith);
              few = omega arith;
              live = λ p. absurd (omega arith);
              leased = λ l p. absurd (omega arith);
              dealt = λ l p. absurd (omega arith);
              lease_live = λ p. absurd (omega arith);
              own = λ _. unused ∙ sym (none_before (λ q. v.next == q.by) v.seen r.line k.begins unused);
              counts = record { number_drawn = λ _. c.next_drawn (omega arith); one_count = omega arith; live_count = omega arith; next_drawn = λ p. absurd (omega arith); next_new = λ p. absurd (omega arith); unused = λ p. absurd (omega arith); alone_is = λ p. absurd (omega arith) };
            })
            (each_set (λ _ u. SeatOk about (get_or s.words 0 0) (get_or s.words 2 0) r.drawn r.line u) s.views id l
            (record {
              about_is = k.about_is;
              begins = k.begins;
              met = k.met;
              waits = k.waits;
              turn = k.turn;
              few = k.few;
              live = k.live;
              own = k.own;
              leased = k.leased;
              dealt = k.dealt;
              lease_live = k.lease_live;
              counts = record { number_drawn = c.number_drawn; one_count = (let q = c.one_count in omega arith); live_count = (let q = c.live_count in omega arith); next_drawn = λ p. absurd (omega arith); next_new = λ p. absurd (omega arith); unused = λ p. absurd (omega arith); alone_is = c.alone_is };
            })
            (λ j u n e. r.each j u e));
        pairs = pairs_push Apart vs o apart_turned
            (each_set (λ _ u. Apart o u) s.views id l
            (record { tickets = λ p. absurd (omega arith); numbers = λ p q z. c.next_new (omega arith) (sym z); number_next = λ p q. absurd (omega arith); next_number = λ p. absurd (omega arith); nexts = λ p. absurd (omega arith); leases = λ p. absurd (omega arith) })
            (λ j u n e. let a = r.pairs id j v u (λ z. n (sym z)) at e in record { leases = λ p. absurd (omega arith); tickets = λ p. absurd (omega arith); numbers = λ p q. a.next_number (omega arith) q; number_next = λ p q. a.nexts (omega arith) q; next_number = λ p. absurd (omega arith); nexts = λ p. absurd (omega arith) }))
            (pairs_set Apart s.views id l apart_turned
            (λ j u n e. let a = r.pairs id j v u (λ z. n (sym z)) at e in record { leases = a.leases; tickets = a.tickets; numbers = a.numbers; number_next = a.number_next; next_number = λ p. absurd (omega arith); nexts = λ p. absurd (omega arith) }) r.pairs);
        home = ⊎_elim
            (λ (h : AtHome follows about r.line s). inl record {
              value = h.value;
              left = h.left;
              there = h.there;
              stands = h.stands;
              idle = each_push (λ _ u. u.stage < 2) vs o (omega arith) (each_set (λ _ u. u.stage < 2) s.views id l (h.idle id v at) (λ j u n e. h.idle j u e));
            })
            (λ (q : IsOut s). let p = persists (λ u. 2 ≤ u.stage) s.views id v l at (λ t. t) q.seat q.view q.there q.turn in inr record { seat = p.0; view = p.1; there = at_longer vs (o ∷ []) p.0 p.1 p.2; turn = p.3 }) r.home;
        witness = (let q = r.witness in let p = persists (λ u. (1 ≤ u.tally) × (u.seen ≡ r.line)) s.views id v l at (λ t. t) q.seat q.view q.there (q.counts, q.whole) in
            record { seat = p.0; view = p.1; there = at_longer vs (o ∷ []) p.0 p.1 p.2; counts = p.3.0; whole = p.3.1 });
        all_held = λ m q. let h = r.all_held m q in let p = persists (λ u. u.lease ≡ m + 1) s.views id v l at (λ t. t) h.seat h.view h.there h.has_it in record { seat = p.0; view = p.1; there = at_longer vs (o ∷ []) p.0 p.1 p.2; has_it = p.3 };
      }

  longer_begins : (xs ys line : List (Turn I)) → IsPrefix xs line → IsPrefix ys line → IsPrefix (longer xs ys) line × IsPrefix (shorter xs ys) line
  longer_begins xs ys line p q = go (nat_lt (length xs) (length ys))
    where
      go : (b : Bool) → IsPrefix (cond b ys xs) line × IsPrefix (cond b xs ys) line
      go true = (q, p)
      go false = (p, q)

  longer_cases : (xs ys : List (Turn I)) → ((longer xs ys ≡ ys) × (shorter xs ys ≡ xs) × (length xs ≤ length ys)) ⊎ ((longer xs ys ≡ xs) × (shorter xs ys ≡ ys) × (length ys ≤ length xs))
  longer_cases xs ys = dite (dec_le (suc (length xs)) (length ys)) (λ l. let e = lt-ltb (length xs) (length ys) l in inl (ap (λ b. cond b ys xs) e, ap (λ b. cond b xs ys) e, omega arith))
      (λ n. let e = le-ltb (length xs) (length ys) (omega arith) in inr (ap (λ b. cond b ys xs) e, ap (λ b. cond b xs ys) e, omega arith))

  -- a seat is joined
  pub joins : (id : ℕ) (v : V) (other : ℕ) (w : V) → 1 ≤ v.tally → v.stage ≡ 0 → w.stage ≡ 0 → w.held ≡ 0 → w.refused ≡ 0 → w.lease ≡ 0 → Joins Rule id v other w (joined v w) spent
  joins id v other w live idle still held refused bare s r at apart there = let b : V = joined v w in let vs : List V = set s.views id b in let k = r.each id v at in
      let there' : get_elem? s.views other ≡ some w = sym (set_else s.views id other b apart) ∙ there in let k' = r.each other w there' in let c = k.counts in let c' = k'.counts in
      let m₁ = sum_set may_of s.views id v b at in let t₁ = sum_set tally_of s.views id v b at in let h₁ = set_same held_of s.views id v b at refl in let r₁ = set_same refused_of s.views id v b at refl in
      let m₂ = sum_set may_of vs other w spent there in let t₂ = sum_set tally_of vs other w spent there in let h₂ = sum_set held_of vs other w spent there in let r₂ = sum_set refused_of vs other w spent there in
      let room = r.room in let drawn = r.drawn_is in let made = r.passes_is in let both = longer_begins v.seen w.seen r.line k.begins k'.begins in let f = k.few in let lc = c.live_count in let cases = longer_cases v.seen w.seen in
      let whole : (xs : List (Turn I)) → xs ≡ r.line → length xs ≤ length (longer v.seen w.seen) → longer v.seen w.seen ≡ r.line = λ xs e le. let z = ap length e in whole_prefix (longer v.seen w.seen) r.line both.0 (omega arith) in record {
        line = r.line;
        drawn = r.drawn;
        wide = r.wide;
        deep = r.deep;
        serving = r.serving;
        queue = r.queue;
        few_passes = r.few_passes;
        room = omega arith;
        drawn_is = omega arith;
        drawn_few = r.drawn_few;
        passes_is = omega arith;
        full = λ p. r.full (omega arith);
        fresh = r.fresh;
        each = each_set (λ _ u. SeatOk about (get_or s.words 0 0) (get_or s.words 2 0) r.drawn r.line u) vs other spent
            (record {
              about_is = λ p. absurd (omega arith);
              begins = (r.line, refl);
              met = (r.line, refl);
              waits = λ p. absurd (omega arith);
              turn = λ p. absurd (omega arith);
              few = omega arith;
              live = λ p. absurd (omega arith);
              own = λ p. absurd (omega arith);
              leased = λ l p. absurd (omega arith);
              dealt = λ l p. absurd (omega arith);
              lease_live = λ p. absurd (omega arith);
              counts = record { number_drawn = λ p. absurd (omega arith); one_count = omega arith; live_count = omega arith; next_drawn = λ p. absurd (omega arith); next_new = λ p. absurd (omega arith); unused = λ p. absurd (omega arith); alone_is = λ p. absurd (omega arith) };
            })
            (λ j u n e. each_set (λ _ u. SeatOk about (get_or s.words 0 0) (get_or s.words 2 0) r.drawn r.line u) s.views id b
            (record {
              about_is = λ _. k.about_is live;
              begins = both.0;
              met = both.1;
              waits = λ p. absurd (omega arith);
              turn = λ p. absurd (omega arith);
              few = omega arith;
              live = λ p. absurd (omega arith);
              leased = k.leased;
              lease_live = λ p. omega arith;
              own = λ _. ⊎_elim
                  (λ (t : (longer v.seen w.seen ≡ w.seen) × (shorter v.seen w.seen ≡ v.seen) × (length v.seen ≤ length w.seen)).
                  between (λ q. v.number == q.by) v.seen w.seen r.line (prefix_shorter v.seen w.seen r.line k.begins k'.begins t.2) k'.begins (k.own live) ∙ ap (turns_of v.number) (sym t.0))
                  (λ (t : (longer v.seen w.seen ≡ v.seen) × (shorter v.seen w.seen ≡ w.seen) × (length w.seen ≤ length v.seen)). k.own live ∙ ap (turns_of v.number) (sym t.0)) cases;
              dealt = λ l p. ⊎_elim
                  (λ (t : (longer v.seen w.seen ≡ w.seen) × (shorter v.seen w.seen ≡ v.seen) × (length v.seen ≤ length w.seen)).
                  between (λ q. is_on l q.deed) v.seen w.seen r.line (prefix_shorter v.seen w.seen r.line k.begins k'.begins t.2) k'.begins (k.dealt l p) ∙ ap (turns_on l) (sym t.0))
                  (λ (t : (longer v.seen w.seen ≡ v.seen) × (shorter v.seen w.seen ≡ w.seen) × (length w.seen ≤ length v.seen)). k.dealt l p ∙ ap (turns_on l) (sym t.0)) cases;
              counts = record { number_drawn = λ _. c.number_drawn live; one_count = c.one_count; live_count = omega arith; next_drawn = c.next_drawn; next_new = c.next_new; unused = c.unused; alone_is = λ p. absurd (omega arith) };
            })
            (λ i z _ g. r.each i z g) j u e);
        pairs = pairs_set Apart vs other spent apart_turned (λ j u n e. record { leases = λ p. absurd (omega arith); tickets = λ p. absurd (omega arith); numbers = λ p. absurd (omega arith); number_next = λ p. absurd (omega arith); next_number = λ p. absurd (omega arith); nexts = λ p. absurd (omega arith) })
            (pairs_set Apart s.views id b apart_turned
            (λ j u n e. let a = r.pairs id j v u (λ z. n (sym z)) at e in record { leases = a.leases; tickets = λ p. absurd (omega arith); numbers = λ p q. a.numbers live q; number_next = λ p q. a.number_next live q; next_number = a.next_number; nexts = a.nexts }) r.pairs);
        home = ⊎_elim
            (λ (h : AtHome follows about r.line s). inl record {
              value = h.value;
              left = h.left;
              there = h.there;
              stands = h.stands;
              idle = each_set (λ _ u. u.stage < 2) vs other spent (omega arith) (λ j u n e. each_set (λ _ u. u.stage < 2) s.views id b (h.idle id v at) (λ i z _ g. h.idle i z g) j u e);
            })
            (λ (q : IsOut s). let p = persists (λ u. 2 ≤ u.stage) s.views id v b at (λ t. t) q.seat q.view q.there q.turn in
            let p' = persists (λ u. 2 ≤ u.stage) vs other w spent there (λ t. absurd (omega arith)) p.0 p.1 p.2 p.3 in inr record { seat = p'.0; view = p'.1; there = p'.2; turn = p'.3 }) r.home;
        all_held = λ l q. let h = r.all_held l q in let p = persists (λ u. u.lease ≡ l + 1) s.views id v b at (λ t. t) h.seat h.view h.there h.has_it in
            let p' = persists (λ u. u.lease ≡ l + 1) vs other w spent there (λ t. absurd (omega arith)) p.0 p.1 p.2 p.3 in record { seat = p'.0; view = p'.1; there = p'.2; has_it = p'.3 };
        witness = (let q = r.witness in dite (ℕ_discrete q.seat other)
            (λ same. let is : q.view ≡ w = some-injective q.view w (sym q.there ∙ (ap (get_elem? s.views) same ∙ there')) in let e : w.seen ≡ r.line = ap (λ (u : V). u.seen) (sym is) ∙ q.whole in
            record {
              seat = id;
              view = b;
              there = set_else vs other id spent (λ z. apart (sym z)) ∙ set_at s.views id v b at;
              counts = omega arith;
              whole = whole w.seen e (⊎_elim (λ (t : (longer v.seen w.seen ≡ w.seen) × (shorter v.seen w.seen ≡ v.seen) × (length v.seen ≤ length w.seen)). let z = ap length t.0 in omega arith)
                  (λ (t : (longer v.seen w.seen ≡ v.seen) × (shorter v.seen w.seen ≡ w.seen) × (length w.seen ≤ length v.seen)). let z = ap length t.0 in let y = t.2 in omega arith) cases);
            })
            (λ else. dite (ℕ_discrete q.seat id)
            (λ same. let is : q.view ≡ v = some-injective q.view v (sym q.there ∙ (ap (get_elem? s.views) same ∙ at)) in let e : v.seen ≡ r.line = ap (λ (u : V). u.seen) (sym is) ∙ q.whole in
            record {
              seat = id;
              view = b;
              there = set_else vs other id spent (λ z. apart (sym z)) ∙ set_at s.views id v b at;
              counts = omega arith;
              whole = whole v.seen e (⊎_elim (λ (t : (longer v.seen w.seen ≡ w.seen) × (shorter v.seen w.seen ≡ v.seen) × (length v.seen ≤ length w.seen)). let z = ap length t.0 in let y = t.2 in omega arith)
                  (λ (t : (longer v.seen w.seen ≡ v.seen) × (shorter v.seen w.seen ≡ w.seen) × (length w.seen ≤ length v.seen)). let z = ap length t.0 in omega arith) cases);
            })
            (λ not. record { seat = q.seat; view = q.view; there = set_else vs other q.seat spent else ∙ (set_else s.views id q.seat b not ∙ q.there); counts = q.counts; whole = q.whole })));
      }

  -- the table at the start
  pub starts : (homes : List (Place T I)) (value : T) → homes ≡ Home value None ∷ [] → about.first.value ≡ value → 1 ≤ about.passes → about.passes < 2 ^ 32 → follows value [] value
      → Rule (opening (0 ∷ 0 ∷ 1 ∷ []) homes (first_seat about))
  starts homes value is from some_pass few first = let v : V = first_seat about in let ft = sum_by-cons tally_of v [] in let fm = sum_by-cons may_of v [] in let fh = sum_by-cons held_of v [] in let fr = sum_by-cons refused_of v [] in
      subst (λ (hs : List (Place T I)). Rule (opening (0 ∷ 0 ∷ 1 ∷ []) hs v)) (sym is) record {
        line = [];
        drawn = 1;
        wide = refl;
        deep = refl;
        serving = refl;
        queue = omega arith;
        few_passes = few;
        room = omega arith;
        drawn_is = omega arith;
        drawn_few = some_pass;
        passes_is = omega arith;
        full = λ p. absurd (omega arith);
        fresh = λ n le. refl;
        each = λ j u e. ⊎_elim
            (λ (t : (j ≡ 0) × (v ≡ u)). subst (SeatOk about 0 1 1 []) t.1 (record {
              about_is = λ _. refl;
              begins = ([], refl);
              met = ([], refl);
              waits = λ p. absurd (omega arith);
              turn = λ p. absurd (omega arith);
              few = omega arith;
              live = λ p. absurd (omega arith);
              own = λ _. refl;
              leased = λ l p. absurd (omega arith);
              dealt = λ l p. absurd (omega arith);
              lease_live = λ p. absurd (omega arith);
              counts = record { number_drawn = λ _. omega arith; one_count = omega arith; live_count = omega arith; next_drawn = λ p. absurd (omega arith); next_new = λ p. absurd (omega arith); unused = λ p. absurd (omega arith); alone_is = λ p. absurd (omega arith) };
            }))
            (λ (t : (j ≢ 0) × (get_elem? (v ∷ []) j ≡ some u)). absurd (beyond j u t.0 t.1)) (at_set (v ∷ []) 0 j v u e);
        pairs = λ i j u w n e f. absurd (n (only i u e ∙ sym (only j w f)));
        home = inl record {
          value = value;
          left = None;
          there = refl;
          stands = subst (λ (o : T). follows o [] value) (sym from) first;
          idle = λ j u e. ⊎_elim (λ (t : (j ≡ 0) × (v ≡ u)). subst (λ (z : V). z.stage < 2) t.1 (omega arith)) (λ (t : (j ≢ 0) × (get_elem? (v ∷ []) j ≡ some u)). absurd (beyond j u t.0 t.1)) (at_set (v ∷ []) 0 j v u e);
        };
        witness = record { seat = 0; view = v; there = refl; counts = omega arith; whole = refl };
        all_held = λ l p. absurd (true≢false (sym p));
      }
    where
      beyond : (j : ℕ) (u : V) → j ≢ 0 → get_elem? (first_seat about ∷ []) j ≡ some u → ⊥
      beyond zero u other e = other refl
      beyond (suc j) u other e = some-ne-none u (sym e)

      only : (j : ℕ) (u : V) → get_elem? (first_seat about ∷ []) j ≡ some u → j ≡ 0
      only zero u e = refl
      only (suc j) u e = absurd (some-ne-none u (sym e))

  -- a pass that is alone takes the value that its line leaves
  pub record Closes (v : V) (s : St) : Type 0 where
    pub value : T
    pub left : Option (Left I)
    pub there : get_elem? s.homes 0 ≡ some (some (Home value left))
    pub stands : follows about.first.value v.seen value
    pub none_out : (l : ℕ) → is_out l v.seen ≡ false

  pub closes : (s : St) (r : Rule s) (id : ℕ) (v : V) → get_elem? s.views id ≡ some v → 1 ≤ v.tally → v.stage ≡ 0 → v.lease ≡ 0 → (v.alone ≡ 1) ⊎ (about.passes ≤ v.tally) → Closes v s
  closes s r id v at live idle bare alone = let k = r.each id v at in let drawn = r.drawn_is in let few = r.drawn_few in let made = r.passes_is in
      let all : sum_by tally_of s.views ≤ v.tally = ⊎_elim (λ (a : v.alone ≡ 1). let q = k.counts.alone_is a in omega arith) (λ (a : about.passes ≤ v.tally). omega arith) alone in
      let other_none : (j : ℕ) (u : V) → get_elem? s.views j ≡ some u → 1 ≤ u.tally → j ≡ id = λ j u e p. dite (ℕ_discrete j id) (λ z. z) (λ n. let two = sum_two tally_of s.views j id u v n e at in absurd (omega arith)) in
      let same : (j : ℕ) (u : V) → get_elem? s.views j ≡ some u → 1 ≤ u.tally → u ≡ v = λ j u e p. some-injective u v (sym e ∙ (ap (get_elem? s.views) (other_none j u e p) ∙ at)) in
      let w = r.witness in let whole : v.seen ≡ r.line = ap (λ (u : V). u.seen) (sym (same w.seat w.view w.there w.counts)) ∙ w.whole in
      let h : AtHome follows about r.line s = ⊎_elim (λ (h : AtHome follows about r.line s). h)
      (λ (o : IsOut s). let t = o.turn in let l = (r.each o.seat o.view o.there).live (omega arith) in let z : o.view.stage ≡ v.stage = ap (λ (u : V). u.stage) (same o.seat o.view o.there l) in absurd (omega arith)) r.home in record {
        value = h.value;
        left = h.left;
        there = h.there;
        stands = subst (λ (l : List (Turn I)). follows about.first.value l h.value) (sym whole) h.stands;
        none_out = λ l. not_true (is_out l v.seen) (λ o. let q = r.all_held l (ap (is_out l) (sym whole) ∙ o) in let p = q.has_it in let y : q.view.lease ≡ v.lease = ap (λ (u : V). u.lease) (same q.seat q.view q.there ((r.each q.seat q.view q.there).lease_live (omega arith))) in omega arith);
      }

  pub record IsTaken (v : V) (place : Place T I) : Type 0 where
    pub value : T
    pub left : Option (Left I)
    pub is : place ≡ Home value left
    pub leaves : Leaves follows v value

  pub taken : (id : ℕ) (v u : V) (ws : List ℕ) (xs : List (Place T I)) (place : Place T I) → Final (Seen (Kept follows about) id u) ws xs → 1 ≤ u.tally → u.stage ≡ 0 → u.lease ≡ 0 → (u.alone ≡ 1) ⊎ (about.passes ≤ u.tally) → u.about ≡ Some about
      → v.about ≡ u.about → v.seen ≡ u.seen → get_elem? xs 0 ≡ some place → IsTaken v place
  taken id v u ws xs place end live idle bare alone is about_is seen at = let s = end.0 in let k = closes s end.1.0 id u end.1.1 live idle bare alone in record {
    value = k.value;
    left = k.left;
    is = some-injective place (Home k.value k.left) (sym at ∙ end.4 0 (Home k.value k.left) k.there);
    leaves = record {
      stands = λ a e. subst (λ (z : Opening T × List (Turn I)). follows z.0.first.value z.1 k.value) (λ i. (one_opening u.about about a is (sym about_is ∙ e) i, sym seen i)) k.stands;
      none_out = λ l. ap (is_out l) seen ∙ k.none_out l;
    };
  }

  pub leaves_of : (v : V) (place : Place T I) (value : T) (left : Option (Left I)) → IsTaken v place → place ≡ Home value left → Leaves follows v value
  leaves_of v place value left t is = let e : Home t.value t.left ≡ Home value left = sym t.is ∙ is in let s : t.value ≡ value = cc e in subst (Leaves follows v) s t.leaves

module _ {I : Type 0} where
  pub shorter_length : (xs ys : List (Turn I)) → length (shorter xs ys) ≤ length (longer xs ys)
  shorter_length xs ys = dite (dec_le (suc (length xs)) (length ys)) (λ l. let e = lt-ltb (length xs) (length ys) l in rw e (omega arith)) (λ n. let e = le-ltb (length xs) (length ys) (omega arith) in rw e (omega arith))
