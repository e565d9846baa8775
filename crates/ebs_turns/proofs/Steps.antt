-- Each step of a turn keeps the rule.
use Rattle.std.proofs.Common.{◌≡◌, ◌≢◌, ◌⊎◌, ℕ, true, Option, Some, ◌+◌, ◌*◌, ◌%◌, ◌^◌, ◌<◌, ◌≤◌, List, [], ◌∷◌, ◌++◌, length, get_or, set, refl, ap, sym, ◌∙◌, subst, ⊎_elim, inl, inr, arith, sum_by, length-set, length-append, get_or-set_other, get_or-set_same}
use mathlib.Core.Option.{none, some, some-injective}
use mathlib.Core.List.{IsPrefix}
use mathlib.Core.Logic.{dite}
use native.Mathlib.Decide.{ℕ_discrete, dec_le}
use lib.ListN.{get_elem?}
use lib.Seq.{set-get_or}
use Rattle.atomic_table.specs.Table.{State, Me, step, Act, keeps, takes, gives, stepped, homes_after, Allows, Valid}
use Rattle.atomic_table.proofs.Lists.{set_here}
use Rattle.ebs_turns.specs.declared.line.Left.{Left}
use Rattle.ebs_turns.specs.declared.line.Turn.{Turn}
use Rattle.ebs_turns.specs.declared.seats.Opening.{Opening}
use Rattle.ebs_turns.specs.declared.seats.Place.{Place}
use Rattle.ebs_turns.specs.declared.seats.Place.TheVariants.{Home}
use Rattle.ebs_turns.specs.declared.seats.View.{View}
use Rattle.ebs_turns.specs.Line.{turns_of, turns_on, is_on, is_out, lease_after, IsDeed}
use Rattle.ebs_turns.specs.Rule.{may_of, tally_of, held_of, refused_of, Counted, SeatOk, Apart, AtHome, IsOut, IsWitnessed, IsHeld, Kept}
use Rattle.ebs_turns.specs.Tells.{after_look, after_refusal, with_ticket, with_turn, turn_by, behind, Stands, looked, queued, turned, with_left, ended}
use Rattle.ebs_turns.proofs.Lines.{prefix_self, prefix_more, unpicked, others_turns, is_out_more, out_here, out_there, off_there, lease_apart, held_cases}
use Rattle.ebs_turns.proofs.Views.{each_set, pairs_set, sum_set, sum_le, set_at, persists}

module _ {T I : Type 0} where
  -- the counts that only splits and joins change
  pub record Alike (v w : View T I) : Type 0 where
    pub tally : w.tally ≡ v.tally
    pub held : w.held ≡ v.held
    pub refused : w.refused ≡ v.refused
    pub number : w.number ≡ v.number
    pub next : w.next ≡ v.next

  pub apart_turned : (v w : View T I) → Apart v w → Apart w v
  apart_turned v w a = record { tickets = λ p q e. a.tickets q p (sym e); numbers = λ p q e. a.numbers q p (sym e); number_next = λ p q e. a.next_number q p (sym e); next_number = λ p q e. a.number_next q p (sym e); nexts = λ p q e. a.nexts q p (sym e); leases = λ p q e. a.leases q p (sym e) }

  pub set_same : (f : View T I → ℕ) (vs : List (View T I)) (i : ℕ) (v w : View T I) → get_elem? vs i ≡ some v → f w ≡ f v → sum_by f (set vs i w) ≡ sum_by f vs
  set_same f vs i v w at e = omega (arith, sum_set f vs i v w at)

  -- the line grows by a turn of a pass whose number the seat does not hold
  longer_counts : (made drawn : ℕ) (line : List (Turn I)) (u : View T I) (x : Turn I) → (1 ≤ u.held → u.next ≢ x.by) → Counted made drawn line u → Counted made drawn (line ++ x ∷ []) u
  longer_counts made drawn line u x other c = record {
    number_drawn = c.number_drawn;
    one_count = c.one_count;
    live_count = c.live_count;
    next_drawn = c.next_drawn;
    next_new = c.next_new;
    unused = λ h. others_turns u.next line x (other h) ∙ c.unused h;
    alone_is = c.alone_is;
  }

-- the value in hand is what the line with the turn leaves, which may follow it
pub record IsDue {T I : Type 0} (follows : T → List (Turn I) → T → Type 0) (me : Me (Place T I) (View T I)) (value : T) (left : Left I) : Type 0 where
  pub stage : me.0.stage ≡ 2
  pub hand : me.1 ≡ (0, Home value (Some left)) ∷ []
  pub stands : Stands follows me.0.about (me.0.seen ++ turn_by me.0.number left ∷ []) value
  pub deed : IsDeed me.0.seen me.0.lease left.deed

-- a seat is told of one opening
pub one_opening : {T : Type 0} (o : Option (Opening T)) (a b : Opening T) → o ≡ Some a → o ≡ Some b → a ≡ b
one_opening o a b e d = cc (e, d)

module _ {T I : Type 0} (follows : T → List (Turn I) → T → Type 0) (about : Opening T) where
  abbrev V : Type 0
  V = View T I

  abbrev St : Type 0
  St = State (Place T I) V

  abbrev Homes : Type 0
  Homes = List (mathlib.Core.Option.Option (Place T I))

  -- one seat steps, and the line becomes line'
  pub moves : (s : St) (r : Kept follows about s) (id : ℕ) (v w : V) (words' : List ℕ) (homes' : Homes) (line' : List (Turn I)) → get_elem? s.views id ≡ some v → Alike v w
      → length words' ≡ 3 → length homes' ≡ 1 → get_or words' 1 0 ≡ length line' → length line' ≤ get_or words' 0 0 → get_or words' 2 0 ≡ get_or s.words 2 0 → ((n : ℕ) → r.drawn ≤ n → turns_of n line' ≡ [])
      → get_or words' 0 0 + sum_by may_of (set s.views id w) ≤ 2 ^ 42 + 2 * about.passes
      → SeatOk about (get_or words' 0 0) (get_or s.words 2 0) r.drawn line' w
      → ((j : ℕ) (u : V) → j ≢ id → get_elem? s.views j ≡ some u → SeatOk about (get_or s.words 0 0) (get_or s.words 2 0) r.drawn r.line u → SeatOk about (get_or words' 0 0) (get_or s.words 2 0) r.drawn line' u)
      → ((j : ℕ) (u : V) → j ≢ id → get_elem? s.views j ≡ some u → 1 ≤ w.stage → 1 ≤ u.stage → w.ticket ≢ u.ticket)
      → ((j : ℕ) (u : V) → j ≢ id → get_elem? s.views j ≡ some u → 1 ≤ w.lease → 1 ≤ u.lease → w.lease ≢ u.lease)
      → ((l : ℕ) → is_out l line' ≡ true → IsHeld {T = T} {I = I} l record { words = words'; homes = homes'; views = set s.views id w })
      → (let s' : St = record { words = words'; homes = homes'; views = set s.views id w } in (AtHome follows about line' s' ⊎ IsOut s') × IsWitnessed line' s')
      → Kept follows about record { words = words'; homes = homes'; views = set s.views id w }
  moves s r id v w words' homes' line' at alike wide deep serving queue word2 fresh room here others tickets leases held last = record {
    line = line';
    drawn = r.drawn;
    wide = wide;
    deep = deep;
    serving = serving;
    queue = queue;
    few_passes = r.few_passes;
    room = room;
    drawn_is = (λ k. set_same tally_of s.views id v w at alike.tally k + set_same held_of s.views id v w at alike.held k) ∙ r.drawn_is;
    drawn_few = r.drawn_few;
    passes_is = word2 ∙ (r.passes_is ∙ ap (λ (n : ℕ). r.drawn + n) (sym (set_same refused_of s.views id v w at alike.refused)));
    full = λ p. r.full (subst (λ (n : ℕ). 1 ≤ n) (set_same refused_of s.views id v w at alike.refused) p);
    fresh = fresh;
    each = subst (λ (made : ℕ). (j : ℕ) (u : V) → get_elem? (set s.views id w) j ≡ some u → SeatOk about (get_or words' 0 0) made r.drawn line' u) (sym word2)
        (each_set (λ _ u. SeatOk about (get_or words' 0 0) (get_or s.words 2 0) r.drawn line' u) s.views id w here (λ j u n e. others j u n e (r.each j u e)));
    pairs = pairs_set Apart s.views id w apart_turned
        (λ j u n e. let a = r.pairs id j v u (λ z. n (sym z)) at e in let t = alike.tally in let m = alike.number in let h = alike.held in let x = alike.next in record {
          tickets = tickets j u n e;
          numbers = λ p q z. a.numbers (omega arith) q (sym m ∙ z);
          number_next = λ p q z. a.number_next (omega arith) q (sym m ∙ z);
          next_number = λ p q z. a.next_number (omega arith) q (sym x ∙ z);
          nexts = λ p q z. a.nexts (omega arith) q (sym x ∙ z);
          leases = leases j u n e;
        }) r.pairs;
    home = last.0;
    witness = last.1;
    all_held = held;
  }

  -- the seat that is out stays out, or the slot at home stays there
  pub stays_home : (line : List (Turn I)) (s : St) (words' : List ℕ) (id : ℕ) (v w : V) → get_elem? s.views id ≡ some v → (2 ≤ v.stage → 2 ≤ w.stage) → (v.stage < 2 → w.stage < 2)
      → AtHome follows about line s ⊎ IsOut s → (let s' : St = record { words = words'; homes = s.homes; views = set s.views id w } in AtHome follows about line s' ⊎ IsOut s')
  stays_home line s words' id v w at out home = ⊎_elim
      (λ (h : AtHome follows about line s). inl record {
        value = h.value;
        left = h.left;
        there = h.there;
        stands = h.stands;
        idle = each_set (λ _ u. u.stage < 2) s.views id w (home (h.idle id v at)) (λ j u n e. h.idle j u e);
      })
      (λ (o : IsOut s). let p = persists (λ u. 2 ≤ u.stage) s.views id v w at out o.seat o.view o.there o.turn in inr record { seat = p.0; view = p.1; there = p.2; turn = p.3 })

  pub stays_witnessed : (line : List (Turn I)) (s : St) (words' : List ℕ) (homes' : Homes) (id : ℕ) (v w : V) → get_elem? s.views id ≡ some v → w.tally ≡ v.tally → w.seen ≡ v.seen
      → IsWitnessed line s → IsWitnessed {T = T} {I = I} line record { words = words'; homes = homes'; views = set s.views id w }
  stays_witnessed line s words' homes' id v w at tally seen o =
      let p = persists (λ u. (1 ≤ u.tally) × (u.seen ≡ line)) s.views id v w at (λ t. (subst (λ n. 1 ≤ n) (sym tally) t.0, seen ∙ t.1)) o.seat o.view o.there (o.counts, o.whole) in
      record { seat = p.0; view = p.1; there = p.2; counts = p.3.0; whole = p.3.1 }

  -- so do the leases
  pub same_leases : (s : St) (r : Kept follows about s) (id : ℕ) (v w : V) → get_elem? s.views id ≡ some v → w.lease ≡ v.lease
      → (j : ℕ) (u : V) → j ≢ id → get_elem? s.views j ≡ some u → 1 ≤ w.lease → 1 ≤ u.lease → w.lease ≢ u.lease
  same_leases s r id v w at same j u n e p q z = (r.pairs id j v u (λ k. n (sym k)) at e).leases (omega arith) q (sym same ∙ z)

  pub stays_held : (s : St) (words' : List ℕ) (homes' : Homes) (id : ℕ) (v w : V) → get_elem? s.views id ≡ some v → w.lease ≡ v.lease → (line : List (Turn I)) → ((l : ℕ) → is_out l line ≡ true → IsHeld l s)
      → (l : ℕ) → is_out l line ≡ true → IsHeld {T = T} {I = I} l record { words = words'; homes = homes'; views = set s.views id w }
  stays_held s words' homes' id v w at same line old l o = let h = old l o in let p = persists (λ u. u.lease ≡ l + 1) s.views id v w at (λ t. same ∙ t) h.seat h.view h.there h.has_it in
      record { seat = p.0; view = p.1; there = p.2; has_it = p.3 }

  -- a step that leaves the line, the slot and what the seat has seen
  pub quiet : (s : St) (r : Kept follows about s) (id : ℕ) (v w : V) (words' : List ℕ) → get_elem? s.views id ≡ some v → Alike v w → w.seen ≡ v.seen → w.lease ≡ v.lease
      → length words' ≡ 3 → get_or words' 1 0 ≡ get_or s.words 1 0 → get_or words' 2 0 ≡ get_or s.words 2 0 → get_or s.words 0 0 ≤ get_or words' 0 0
      → get_or words' 0 0 + sum_by may_of (set s.views id w) ≤ 2 ^ 42 + 2 * about.passes
      → SeatOk about (get_or words' 0 0) (get_or s.words 2 0) r.drawn r.line w
      → ((j : ℕ) (u : V) → j ≢ id → get_elem? s.views j ≡ some u → 1 ≤ w.stage → 1 ≤ u.stage → w.ticket ≢ u.ticket)
      → (2 ≤ v.stage → 2 ≤ w.stage) → (v.stage < 2 → w.stage < 2)
      → Kept follows about record { words = words'; homes = s.homes; views = set s.views id w }
  quiet s r id v w words' at alike seen lease wide word1 word2 word0 room here tickets out home =
      moves s r id v w words' s.homes r.line at alike wide r.deep (word1 ∙ r.serving) (let q = r.queue in omega arith) word2 r.fresh room here
      (λ j u n e k. record { about_is = k.about_is; begins = k.begins; met = k.met; waits = λ p. let t = k.waits p in let t₀ = t.0 in let t₁ = t.1 in (t₀, omega arith); turn = k.turn; few = k.few; live = k.live; own = k.own; leased = k.leased; dealt = k.dealt; lease_live = k.lease_live; counts = k.counts }) tickets
      (same_leases s r id v w at lease) (stays_held s words' s.homes id v w at lease r.line r.all_held)
      (stays_home r.line s words' id v w at out home r.home, stays_witnessed r.line s words' s.homes id v w at alike.tally seen r.witness)

  -- the tickets of two seats stay apart where the one that steps keeps its own
  pub same_tickets : (s : St) (r : Kept follows about s) (id : ℕ) (v w : V) → get_elem? s.views id ≡ some v → w.ticket ≡ v.ticket → (1 ≤ w.stage → 1 ≤ v.stage)
      → (j : ℕ) (u : V) → j ≢ id → get_elem? s.views j ≡ some u → 1 ≤ w.stage → 1 ≤ u.stage → w.ticket ≢ u.ticket
  same_tickets s r id v w at same stage j u n e p q z = (r.pairs id j v u (λ k. n (sym k)) at e).tickets (stage p) q (sym same ∙ z)

  abbrev M : Type 0
  M = Me (Place T I) V

  abbrev Rule : St → Type 0
  Rule = Kept follows about

  -- a load of the word i leaves the words
  pub loaded : (s : St) (i id : ℕ) (homes' : Homes) (w : V) → Rule record { words = s.words; homes = homes'; views = set s.views id w }
      → Rule record { words = set s.words i (get_or s.words i 0); homes = homes'; views = set s.views id w }
  loaded s i id homes' w k = subst (λ (ws : List ℕ). Rule record { words = ws; homes = homes'; views = set s.views id w }) (sym (set-get_or s.words i 0)) k

  -- a look at the next ticket
  pub looks : (slots id : ℕ) (me : M) → 1 ≤ me.0.tally → Allows Rule slots id me 0 (λ n. n) (looked (step slots 0 0 0 none) me)
  looks slots id me live s r deep at fits = let v : V = me.0 in let x : ℕ = get_or s.words 0 0 in let k = r.each id v at in dite (dec_le (2 ^ 42) x)
      (λ high. let w : V = after_refusal x v in (
        w,
        keeps,
        tt,
        loaded s 0 id s.homes w (quiet s r id v w s.words at (record { tally = refl; held = refl; refused = refl; number = refl; next = refl }) refl refl r.wide refl refl (omega arith)
            (let e = set_same may_of s.views id v w at refl in let old = r.room in omega arith)
            (record { about_is = k.about_is; begins = k.begins; met = k.met; waits = k.waits; turn = k.turn; few = k.few; live = k.live; own = k.own; leased = k.leased; dealt = k.dealt; lease_live = k.lease_live; counts = k.counts })
            (same_tickets s r id v w at refl (λ p. p)) (λ p. p) (λ p. p)),
        (refl, (λ l. absurd (omega arith)), λ _. refl),
      ))
      (λ low. let w : V = after_look x v in let few : 2 ≤ 2 * v.tally = omega arith in (
        w,
        keeps,
        tt,
        loaded s 0 id s.homes w (quiet s r id v w s.words at (record { tally = refl; held = refl; refused = refl; number = refl; next = refl }) refl refl r.wide refl refl (omega arith)
            (let a = sum_le may_of tally_of (set s.views id w) (each_set (λ _ u. u.may ≤ 2 * u.tally) s.views id w few (λ j u n e. (r.each j u e).few)) in
            let b = set_same tally_of s.views id v w at refl in let c = r.drawn_is in let d = r.drawn_few in omega arith)
            (record { about_is = k.about_is; begins = k.begins; met = k.met; waits = k.waits; turn = k.turn; few = few; live = k.live; own = k.own; leased = k.leased; dealt = k.dealt; lease_live = k.lease_live; counts = k.counts })
            (same_tickets s r id v w at refl (λ p. p)) (λ p. p) (λ p. p)),
        (refl, (λ _. refl), λ l. absurd (low l)),
      ))

  -- a ticket is taken
  pub queues : (slots id : ℕ) (me : M) → me.0.stage ≡ 0 → 1 ≤ me.0.may → Allows Rule slots id me 0 (λ n. (n + 1) % 2 ^ 64) (queued (step slots 0 1 0 none) me)
  queues slots id me idle may s r deep at fits = let v : V = me.0 in let x : ℕ = get_or s.words 0 0 in let k = r.each id v at in
      let w : V = with_ticket x v in let y : ℕ = (x + 1) % 18446744073709551616 in let wide = r.wide in
      let there = sum_set may_of s.views id v w at in let room = r.room in let few = r.few_passes in let small : y ≡ x + 1 = omega arith in
      let same = get_or-set_same s.words 0 y 0 (omega arith) in let more = k.few in let line : length r.line ≤ x = r.queue in (
        w,
        keeps,
        tt,
        quiet s r id v w (set s.words 0 y) at (record { tally = refl; held = refl; refused = refl; number = refl; next = refl }) refl refl (length-set s.words 0 y ∙ r.wide)
            (get_or-set_other s.words 0 1 y 0 (λ e. omega arith)) (get_or-set_other s.words 0 2 y 0 (λ e. omega arith)) (omega arith)
            (omega arith)
            (record { about_is = k.about_is; begins = k.begins; met = k.met; waits = λ _. (line, omega arith); turn = λ p. absurd (omega arith); few = omega arith; live = λ _. omega arith; own = k.own; leased = k.leased; dealt = k.dealt; lease_live = k.lease_live; counts = k.counts })
            (λ j u n e p q z. let t = (r.each j u e).waits q in let t₁ = t.1 in omega arith) (λ p. omega arith) (λ p. omega arith),
        (refl, refl),
      )

  -- a look at the ticket that is served
  pub turns : (slots id : ℕ) (me : M) → me.0.stage ≡ 1 → Allows Rule slots id me 1 (λ n. n) (turned follows (step slots 1 0 0 none) me)
  turns slots id me waits s r deep at fits = let v : V = me.0 in let x : ℕ = get_or s.words 1 0 in let k = r.each id v at in let serving = r.serving in dite (ℕ_discrete x v.ticket)
      (λ hit. let h : AtHome follows about r.line s = ⊎_elim (λ (h : AtHome follows about r.line s). h) (λ (o : IsOut s). let t = (r.each o.seat o.view o.there).turn o.turn in let t₀ = t.0 in let here = o.turn in
      dite (ℕ_discrete o.seat id) (λ same. let is : o.view ≡ v = some-injective o.view v (sym o.there ∙ (ap (get_elem? s.views) same ∙ at)) in let z : o.view.stage ≡ v.stage = ap (λ (u : V). u.stage) is in absurd (omega arith))
      (λ other. absurd ((r.pairs o.seat id o.view v other o.there at).tickets (omega arith) (omega arith) (omega arith)))) r.home in
      let w : V = with_turn r.line v in let w₀ = k.waits (omega arith) in let live = k.live (omega arith) in let same = set_same may_of s.views id v w at refl in let room = r.room in let few = r.few_passes in
      let queue = r.queue in (
        w,
        takes 0 (Home h.value h.left),
        h.there,
        loaded s 1 id (set s.homes 0 none) w (moves s r id v w s.words (set s.homes 0 none) r.line at (record { tally = refl; held = refl; refused = refl; number = refl; next = refl })
            r.wide (length-set s.homes 0 none ∙ r.deep) r.serving r.queue refl r.fresh (omega arith)
            (record { about_is = k.about_is; begins = prefix_self r.line; met = k.met; waits = λ _. w₀; turn = λ _. (omega arith, refl); few = k.few; live = λ _. live; own = λ _. refl; leased = k.leased; dealt = λ l p. refl; lease_live = k.lease_live; counts = k.counts })
            (λ j u n e ok. ok) (same_tickets s r id v w at refl (λ p. omega arith))
            (same_leases s r id v w at refl) (stays_held s s.words (set s.homes 0 none) id v w at refl r.line r.all_held)
            (inr record { seat = id; view = w; there = set_at s.views id v w at; turn = omega arith }, record { seat = id; view = w; there = set_at s.views id v w at; counts = live; whole = refl })),
        (
          (λ _. record {
            line = r.line;
            value = h.value;
            left = h.left;
            view = refl;
            hand = refl;
            stands = λ a e. subst (λ (o : Opening T). follows o.first.value r.line h.value) (one_opening v.about about a (k.about_is live) e) h.stands;
            sees = record {
              begins = k.begins;
              own = k.own live;
              long = sym r.serving;
              short = (let t₁ = w₀.1 in omega arith);
              leased = k.leased;
              dealt = k.dealt;
            };
          }),
          λ no. absurd (no hit),
        ),
      ))
      (λ miss. (
        v,
        keeps,
        tt,
        loaded s 1 id s.homes v (quiet s r id v v s.words at (record { tally = refl; held = refl; refused = refl; number = refl; next = refl }) refl refl r.wide refl refl (omega arith)
            (let e = set_same may_of s.views id v v at refl in let old = r.room in omega arith) k (same_tickets s r id v v at refl (λ p. p)) (λ p. p) (λ p. p)),
        ((λ hit. absurd (miss hit)), λ _. refl),
      ))

  held_after : (s : St) (r : Kept follows about s) (id : ℕ) (v : V) → get_elem? s.views id ≡ some v → (words' : List ℕ) (homes' : Homes) (left : Left I) → IsDeed r.line v.lease left.deed
      → (l : ℕ) → is_out l (r.line ++ turn_by v.number left ∷ []) ≡ true → IsHeld {T = T} {I = I} l record { words = words'; homes = homes'; views = set s.views id (behind left v) }
  held_after s r id v at words' homes' left deed l o = ⊎_elim
      (λ (e : lease_after v.lease left.deed ≡ l + 1). record { seat = id; view = behind left v; there = set_at s.views id v (behind left v) at; has_it = e })
      (λ (t : (is_out l r.line ≡ true) × (v.lease ≡ l + 1 → lease_after v.lease left.deed ≡ l + 1)). let h = r.all_held l t.0 in
      let p = persists (λ u. u.lease ≡ l + 1) s.views id v (behind left v) at t.1 h.seat h.view h.there h.has_it in record { seat = p.0; view = p.1; there = p.2; has_it = p.3 })
      (held_cases r.line v.lease left.deed deed l (sym (is_out_more l r.line (turn_by v.number left)) ∙ o))

  -- the turn ends
  pub ends : (slots id : ℕ) (me : M) (value : T) (left : Left I) → IsDue follows me value left → Allows Rule slots id me 1 (λ n. (n + 1) % 2 ^ 64) (ended (step slots 1 1 0 none) me)
  ends slots id me value left due s r deep at fits = let v : V = me.0 in let x : ℕ = get_or s.words 1 0 in let y : ℕ = (x + 1) % 18446744073709551616 in let k = r.each id v at in let serving = r.serving in
      let w : V = behind left v in let z : Turn I = turn_by v.number left in let stage = due.stage in let w₀ = k.waits (omega arith) in let w₀₁ = w₀.1 in let t = k.turn (omega arith) in let t₀ = t.0 in let seen = t.1 in let live = k.live (omega arith) in
      let room = r.room in let few = r.few_passes in let small : y ≡ x + 1 = omega arith in let wide = r.wide in let long = r.deep in
      let line' : List (Turn I) = r.line ++ z ∷ [] in let more : length line' ≡ length r.line + 1 = length-append r.line (z ∷ []) in
      let homes' : Homes = set s.homes 0 (some (Home value (Some left))) in let words' : List ℕ = set s.words 1 y in
      let word0 : get_or words' 0 0 ≡ get_or s.words 0 0 = get_or-set_other s.words 1 0 y 0 (λ e. omega arith) in
      let word1 : get_or words' 1 0 ≡ y = get_or-set_same s.words 1 y 0 (omega arith) in
      let new : v.seen ++ z ∷ [] ≡ line' = ap (λ l. l ++ z ∷ []) seen in
      let deed : IsDeed r.line v.lease left.deed = subst (λ (q : List (Turn I)). IsDeed q v.lease left.deed) seen due.deed in (
        w,
        gives,
        tt,
        subst (λ (cs : List (ℕ × Place T I)). Rule (stepped s 1 y id cs w gives)) (sym due.hand)
            (moves s r id v w words' homes' line' at (record { tally = refl; held = refl; refused = refl; number = refl; next = refl })
            (length-set s.words 1 y ∙ r.wide) (length-set s.homes 0 (some (Home value (Some left))) ∙ r.deep) (omega arith) (omega arith) (get_or-set_other s.words 1 2 y 0 (λ e. omega arith))
            (λ n le. others_turns n r.line z (λ q. let d = k.counts.number_drawn live in omega arith) ∙ r.fresh n le) (let e = set_same may_of s.views id v w at refl in omega arith)
            (record {
              about_is = k.about_is;
              begins = subst (λ l. IsPrefix (v.seen ++ z ∷ []) l) new (prefix_self (v.seen ++ z ∷ []));
              met = prefix_more v.met r.line (z ∷ []) k.met;
              waits = λ p. absurd (omega arith);
              turn = λ p. absurd (omega arith);
              few = k.few;
              live = λ p. absurd (omega arith);
              own = λ _. ap (turns_of v.number) (sym new);
              leased = λ l p. is_out_more l r.line z ∙ out_here r.line v.lease left.deed deed k.leased l p;
              dealt = λ l p. ap (turns_on l) (sym new);
              lease_live = λ p. live;
              counts = longer_counts (get_or s.words 2 0) r.drawn r.line v z (λ h q. k.counts.next_new h (sym q)) k.counts;
            })
            (λ j u n e ok. let a = r.pairs j id u v n e at in record {
              about_is = ok.about_is;
              begins = prefix_more u.seen r.line (z ∷ []) ok.begins;
              met = prefix_more u.met r.line (z ∷ []) ok.met;
              waits = λ p. let q = ok.waits p in let q₀ = q.0 in let q₁ = q.1 in let c = a.tickets p (omega arith) in (omega arith, omega arith);
              turn = λ p. let q = (ok.turn p).0 in absurd (a.tickets (omega arith) (omega arith) (omega arith));
              few = ok.few;
              live = ok.live;
              own = λ p. others_turns u.number r.line z (a.numbers p live) ∙ ok.own p;
              leased = λ l p. is_out_more l r.line z ∙ out_there r.line v.lease left.deed deed l (ok.leased l p) (λ q. a.leases (omega arith) (omega arith) (p ∙ sym q));
              dealt = λ l p. unpicked (λ q. is_on l q.deed) r.line z (off_there r.line v.lease left.deed deed l (ok.leased l p) (λ q. a.leases (omega arith) (omega arith) (p ∙ sym q))) ∙ ok.dealt l p;
              lease_live = ok.lease_live;
              counts = longer_counts (get_or s.words 2 0) r.drawn r.line u z (λ h. a.next_number h live) ok.counts;
            })
            (λ j u n e p. absurd (omega arith))
            (λ j u n e p q c. lease_apart r.line v.lease left.deed deed u.lease (λ p'. (r.pairs id j v u (λ y. n (sym y)) at e).leases p' q) (r.each j u e).leased p c)
            (λ l o. held_after s r id v at words' homes' left deed l o) (
              inl record {
                value = value;
                left = Some left;
                there = set_here s.homes 0 (some (Home value (Some left))) (omega arith);
                stands = subst (λ (q : List (Turn I)). follows about.first.value q value) new (due.stands about (k.about_is live));
                idle = each_set (λ _ u. u.stage < 2) s.views id w (omega arith)
                    (λ j u n e. let ok = r.each j u e in let a = r.pairs j id u v n e at in dite (dec_le 2 u.stage) (λ p. let q = (ok.turn p).0 in absurd (a.tickets (omega arith) (omega arith) (omega arith))) (λ p. omega arith));
              },
              record { seat = id; view = w; there = set_at s.views id v w at; counts = live; whole = new },
            )),
        (ap Rattle.atomic_table.specs.Table.rest due.hand, sym (ap (with_left v) due.hand)),
      )
