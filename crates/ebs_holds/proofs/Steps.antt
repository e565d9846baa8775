-- What becomes of holders by the calls of a lineage and of a table.
use Rattle.std.proofs.Common.{Result, Ok, Err, OnOk, OnErr, Bool, arith, ◌≡◌, ℕ, ◌≤◌, ◌<◌, ◌^◌, ◌⊎◌, inl, inr, true, false, cond, Option, Some, None, refl, sym, ap, subst, ◌∙◌}
use Rattle.std.specs.FinMap as map
use Rattle.std.specs.Ordering.{nat_cmp}
use Rattle.std.specs.Option.{option_map}
use Rattle.ebs_model.specs.declared.array.Block.{Block}
use Rattle.ebs_lineage.specs.declared.node_id.NodeId.{NodeId}
use Rattle.ebs_lineage.specs.Owned.{Blocks}
use Rattle.ebs_lineage.specs.Table.{NodeMap, room, changed, put_node, ready_node, closed_node}
use Rattle.ebs_lineage.specs.Lines.{Lines, IsHeld, IsOpen, IsFrozen, AreLines, new_node, of_parent, array, with_nodes, with_new, put_spare}
use Rattle.ebs_lineage.proofs.Arrays.{no-lines}
use Rattle.ebs_lineage.proofs.Changes.{insert-here, insert-other, changed-here, unborn}
use Rattle.ebs_lineage.specs.declared.node.Node.{Node}
use Rattle.ebs_holds.specs.declared.holder.Holder.{Holder}
use Rattle.ebs_holds.specs.Holders.{holder_cmp, is_holder}
use Rattle.ebs_holds.specs.Orders.{exact_holders, holders_total}
use Rattle.ebs_holds.specs.Holds.{HeldBy, Holding, array_at, array_of_node, held_in, nodes_in, AreHeld, CanPut}
use Rattle.ebs_holds.proofs.Keyed.{cases, at_key, without, gone_at}
use Rattle.ebs_holds.proofs.Holding.{node, begins, begins_arrays, puts, puts_arrays, sealed, dropped, dropped_arrays, shut_frozen, forks, forks_arrays, reopens, reopens_arrays, reopens_open, ready_held, ready_arrays, ready_open}

-- the rows of a table in which a holder was filled
pub filled_here : (held new : HeldBy) (key : Holder) (n : NodeId) → new ≡ map.insert held key n → map.get new key ≡ Some n
filled_here held new key n e = ap (λ (h : HeldBy). map.get h key) e ∙ at_key holders_total exact_holders held key n key refl

pub removed_here : (held new : HeldBy) (key : Holder) → new ≡ map.remove held key → map.get new key ≡ None
removed_here held new key e = ap (λ (h : HeldBy). map.get h key) e ∙ gone_at holders_total exact_holders held key

-- a node that is frozen is what begins from it
pub source_frozen : (nodes : NodeMap) (n : ℕ) → IsFrozen nodes n → (p : ℕ) → Some n ≡ Some p → IsFrozen nodes p
source_frozen nodes n frozen p e = subst (IsFrozen nodes) (same e) frozen
  where
    same : Some n ≡ Some p → n ≡ p
    same e = cc

pub source_none : (nodes : NodeMap) (p : ℕ) → None ≡ Some p → IsFrozen nodes p
source_none nodes p e = absurd (cc)

-- how holders stand over lines
abbrev pub Stand : Lines → HeldBy → Type 0
Stand l held = AreHeld l.table.nodes l.made held

abbrev pub at : Lines → HeldBy → Holder → Blocks
at l held q = array_at l.table.nodes held q

numbered : (held new : HeldBy) (key : Holder) (n : NodeId) (made : ℕ) → n.number ≡ made → new ≡ map.insert held key n → new ≡ map.insert held key (node made)
numbered held new key n made num e = e ∙ ap (λ (k : ℕ). map.insert held key (node k)) num

-- a new node
module _ (l m : Lines) (held new : HeldBy) (are : Stand l held) (up : Option ℕ) (good : (p : ℕ) → up ≡ Some p → IsFrozen l.table.nodes p) (key : Holder) (free : map.get held key ≡ None) (n : NodeId)
    (num : n.number ≡ l.made) (is : m ≡ with_new l up) (fill : new ≡ map.insert held key n) where
  pub begun_stand : Stand m new
  begun_stand = subst (λ (x : Lines × HeldBy). Stand x.0 x.1) (sym (λ i. (is i, numbered held new key n l.made num fill i))) (begins l.table.nodes l.made held are up good key free)

  pub begun_at : (q : Holder) → at m new q ≡ cond (is_holder q key) (of_parent up (array l.table.nodes)) (at l held q)
  begun_at q = (λ i. at (is i) (numbered held new key n l.made num fill i) q) ∙ begins_arrays l.table.nodes l.made held are up good key free q

  pub begun_open : IsOpen m.table.nodes n.number
  begun_open = subst (λ (x : Lines × ℕ). IsOpen x.0.table.nodes x.1) (sym (λ i. (is i, num i))) (new_node up, insert-here l.table.nodes l.made (new_node up), refl)

-- that is a child of another holder's node
pub child_at : (l : Lines) (held new : HeldBy) (m : Lines) (key source : Holder) (n : NodeId) → map.get held source ≡ Some n
    → ((q : Holder) → at m new q ≡ cond (is_holder q key) (array l.table.nodes n.number) (at l held q)) → (q : Holder) → at m new q ≡ cond (is_holder q key) (at l held source) (at l held q)
child_at l held new m key source n has by q = by q ∙ ap (λ o. cond (is_holder q key) (array_of_node l.table.nodes o) (at l held q)) (sym has)

-- nothing was given up
module _ (l : Lines) (held new : HeldBy) (are : Stand l held) (key : Holder) (none : map.get held key ≡ None) (take : new ≡ map.remove held key) where
  same_held : new ≡ held
  same_held = take ∙ without holders_total exact_holders held key none

  pub absent_stand : Stand l new
  absent_stand = subst (Stand l) (sym same_held) are

  pub absent_at : (q : Holder) → at l new q ≡ cond (is_holder q key) map.empty (at l held q)
  absent_at q = ap (λ (h : HeldBy). at l h q) same_held ∙ by (cases holders_total exact_holders q key)
    where
      by : ((is_holder q key ≡ true) × (q ≡ key)) ⊎ ((is_holder q key ≡ false) × (q ≡ key → ⊥)) → at l held q ≡ cond (is_holder q key) map.empty (at l held q)
      by (inl t) = ap (array_of_node l.table.nodes) (ap (map.get held) t.1 ∙ none) ∙ sym (ap (λ b. cond b map.empty (at l held q)) t.0)
      by (inr t) = sym (ap (λ b. cond b map.empty (at l held q)) t.0)

-- a node that is frozen for another holder
module _ (l m : Lines) (held taken filled new : HeldBy) (are : Stand l held) (key : Holder) (n : NodeId) (has : map.get held key ≡ Some n) (is_open : IsOpen l.table.nodes n.number) (other : Holder) (free : map.get held other ≡ None)
    (c : NodeId) (num : c.number ≡ l.made) (is : m ≡ with_nodes (with_new l (Some n.number)) (changed (with_new l (Some n.number)).table.nodes n.number (closed_node true)))
    (take : taken ≡ map.remove held key) (first : filled ≡ map.insert taken other n) (second : new ≡ map.insert filled key c) where
  whole : new ≡ map.insert (map.insert (map.remove held key) other n) key (node l.made)
  whole = numbered filled new key c l.made num second ∙ ap (λ (h : HeldBy). map.insert h key (node l.made)) (first ∙ ap (λ (h : HeldBy). map.insert h other n) take)

  pub forked_stand : Stand m new
  forked_stand = subst (λ (x : Lines × HeldBy). Stand x.0 x.1) (sym (λ i. (is i, whole i))) (forks l.table.nodes l.made held are key n has is_open other free)

  pub forked_at : (q : Holder) → at m new q ≡ cond (is_holder q other) (at l held key) (at l held q)
  forked_at q = (λ i. at (is i) (whole i) q) ∙ forks_arrays l.table.nodes l.made held are key n has is_open other free q

-- a node that is given up
module _ (l m : Lines) (held new : HeldBy) (are : Stand l held) (key : Holder) (n : NodeId) (has : map.get held key ≡ Some n) (is : m ≡ with_nodes l (changed l.table.nodes n.number (closed_node false))) (take : new ≡ map.remove held key) where
  pub dropped_stand : Stand m new
  dropped_stand = subst (λ (x : Lines × HeldBy). Stand x.0 x.1) (sym (λ i. (is i, take i))) (dropped l.table.nodes l.made held are key n has)

  pub dropped_at : (q : Holder) → at m new q ≡ cond (is_holder q key) map.empty (at l held q)
  dropped_at q = (λ i. at (is i) (take i) q) ∙ dropped_arrays l.table.nodes l.made held are key n has q

-- a node that is sealed
module _ (l m : Lines) (held : HeldBy) (are : Stand l held) (key : Holder) (n : NodeId) (has : map.get held key ≡ Some n) (is : m ≡ with_nodes l (changed l.table.nodes n.number (closed_node true))) where
  pub sealed_stand : Stand m held
  sealed_stand = subst (λ (x : Lines). Stand x held) (sym is) (sealed l.table.nodes l.made held are key n has)

  pub sealed_frozen : (p : NodeId) → map.get held key ≡ Some p → IsFrozen m.table.nodes p.number
  sealed_frozen p e = subst (λ (k : Lines). IsFrozen k.table.nodes p.number) (sym is) (shut_frozen l.table.nodes l.made held are key n has p.number (ap (λ (o : Option NodeId). option_map (λ (k : NodeId). k.number) o) (sym has ∙ e)))

-- an open child in the place of a frozen node
module _ (l k m : Lines) (held new : HeldBy) (are : Stand l held) (key : Holder) (n : NodeId) (has : map.get held key ≡ Some n) (frozen : IsFrozen l.table.nodes n.number) (c : NodeId) (num : c.number ≡ l.made)
    (is : k ≡ with_new l (Some n.number)) (then : m ≡ with_nodes k (changed k.table.nodes n.number (closed_node false))) (fill : new ≡ map.insert held key c) where
  both : m ≡ with_nodes (with_new l (Some n.number)) (changed (with_new l (Some n.number)).table.nodes n.number (closed_node false))
  both = then ∙ ap (λ (x : Lines). with_nodes x (changed x.table.nodes n.number (closed_node false))) is

  pub reopened_stand : Stand m new
  reopened_stand = subst (λ (x : Lines × HeldBy). Stand x.0 x.1) (sym (λ i. (both i, numbered held new key c l.made num fill i))) (reopens l.table.nodes l.made held are key n has frozen)

  pub reopened_at : (q : Holder) → at m new q ≡ at l held q
  reopened_at q = (λ i. at (both i) (numbered held new key c l.made num fill i) q) ∙ reopens_arrays l.table.nodes l.made held are key n has frozen q

  pub reopened_open : IsOpen m.table.nodes c.number
  reopened_open = subst (λ (x : Lines × ℕ). IsOpen x.0.table.nodes x.1) (sym (λ i. (both i, num i))) (reopens_open l.table.nodes l.made held are key n has frozen)

-- room for a block
module _ (l m : Lines) (held : HeldBy) (are : Stand l held) (n : ℕ) (is : m ≡ with_nodes l (changed l.table.nodes n ready_node)) where
  pub ready_stand : Stand m held
  ready_stand = subst (λ (x : Lines). Stand x held) (sym is) (ready_held l.table.nodes l.made held n are)

  pub ready_at : (q : Holder) → at m held q ≡ at l held q
  ready_at q = ap (λ (x : Lines). at x held q) is ∙ ready_arrays l.table.nodes held n q

-- a block that is put
module _ (l m : Lines) (held : HeldBy) (are : Stand l held) (key : Holder) (n : NodeId) (has : map.get held key ≡ Some n) (index : ℕ) (block : Block) (near : index < 2 ^ 32) (is_open : IsOpen l.table.nodes n.number)
    (is : m ≡ with_nodes l (changed l.table.nodes n.number (put_node index block))) where
  pub put_stand : Stand m held
  put_stand = subst (λ (x : Lines). Stand x held) (sym is) (puts l.table.nodes l.made held are key n has index block near is_open)

  pub put_at : (q : Holder) → at m held q ≡ cond (is_holder q key) (map.insert (at l held q) index block) (at l held q)
  put_at q = ap (λ (x : Lines). at x held q) is ∙ puts_arrays l.table.nodes l.made held are key n has index block near is_open q

-- no holder has a node
module _ (l : Lines) (held : HeldBy) (lines : l ≡ record { table = record { nodes = map.empty; spare = 0 }; made = 0; places = map.empty }) (none : held ≡ map.empty) where
  none_there : {B : Type 0} (q : Holder) (n : NodeId) → map.get held q ≡ Some n → B
  none_there q n e = absurd (let is : None ≡ Some n = sym (ap (λ (h : HeldBy). map.get h q) none ∙ map.get-empty holder_cmp q) ∙ e in cc)

  no_node : {B : Type 0} (n : ℕ) → IsHeld l.table.nodes n → B
  no_node n (x, is, _) = absurd (let e : None ≡ Some x = sym (ap (λ (k : Lines). map.get k.table.nodes n) lines ∙ map.get-empty nat_cmp n) ∙ is in cc)

  pub empty_stand : Stand l held
  empty_stand = record {
    lines = subst (λ (k : Lines). AreLines k.table.nodes k.made) (sym lines) no-lines;
    apart = λ a b n e f. none_there a n e;
    there = λ q n e. none_there q n e;
    only = λ n h. no_node n.number h;
  }

  pub empty_at : (q : Holder) → at l held q ≡ map.empty
  empty_at q = ap (array_of_node l.table.nodes) (ap (λ (h : HeldBy). map.get h q) none ∙ map.get-empty holder_cmp q)

-- a node that is held is held beside a new one
pub still_held : (l m : Lines) (held : HeldBy) → Stand l held → (up : Option ℕ) → m ≡ with_new l up → (n : ℕ) → IsHeld l.table.nodes n → IsHeld m.table.nodes n
still_held l m held are up is n (x, there, h) = subst (λ (k : Lines). IsHeld k.table.nodes n) (sym is) (x, insert-other l.table.nodes l.made (new_node up) n (unborn l.table.nodes l.made are.lines n x there) ∙ there, h)

-- room is kept, or nothing changed
pub maybe_ready : {T E : Type 0} (r : Result T E) (l m : Lines) (held : HeldBy) → Stand l held → (n : ℕ) → OnOk r (m ≡ with_nodes l (changed l.table.nodes n ready_node)) → OnErr r (m ≡ l) → Stand m held
maybe_ready (Ok x) l m held are n ok err = ready_stand l m held are n ok
maybe_ready (Err e) l m held are n ok err = subst (λ (k : Lines). Stand k held) (sym err) are

has_room : (nodes : NodeMap) (n : ℕ) → IsOpen nodes n → 1 ≤ put_spare (changed nodes n ready_node) n
has_room nodes n (x, is, _) = subst (λ (o : Option Node). 1 ≤ room o) (sym (changed-here nodes n ready_node ∙ ap (option_map ready_node) is)) (omega (arith))

pub can_put : (l m : Lines) (h : Holding) (key : Holder) (n : NodeId) → h.lines ≡ m → map.get (held_in h) key ≡ Some n → IsOpen l.table.nodes n.number → m ≡ with_nodes l (changed l.table.nodes n.number ready_node) → CanPut h key
can_put l m h key n lines has is_open is = record {
  node = n;
  has = has;
  is_open = subst (λ (k : Lines). IsOpen k.table.nodes n.number) (sym (lines ∙ is)) (ready_open l.table.nodes n.number is_open);
  spare = subst (λ (k : Lines). 1 ≤ put_spare k.table.nodes n.number) (sym (lines ∙ is)) (has_room l.table.nodes n.number is_open);
}

-- the node that has room is the holder's
pub the_open : (h : Holding) (key : Holder) (n : NodeId) → CanPut h key → Some n ≡ map.get (held_in h) key → IsOpen (nodes_in h) n.number × (1 ≤ put_spare (nodes_in h) n.number)
the_open h key n can e = subst (λ (k : NodeId). IsOpen (nodes_in h) k.number × (1 ≤ put_spare (nodes_in h) k.number)) (same (sym can.has ∙ sym e)) (can.is_open, can.spare)
  where
    same : Some can.node ≡ Some n → can.node ≡ n
    same e = cc

-- a holder that begins from another one, once it gave up what it had
pub begun_after : (f g h : Holder → Blocks) (key source : Holder) → is_holder source key ≡ false → ((q : Holder) → g q ≡ cond (is_holder q key) map.empty (f q)) → ((q : Holder) → h q ≡ cond (is_holder q key) (g source) (g q))
    → (q : Holder) → h q ≡ cond (is_holder q key) (f source) (f q)
begun_after f g h key source off given by q = by q ∙ ap (λ s. cond (is_holder q key) s (g q)) (given source ∙ ap (λ b. cond b map.empty (f source)) off) ∙ ap (cond (is_holder q key) (f source)) (given q) ∙ twice (is_holder q key)
  where
    twice : (b : Bool) → cond b (f source) (cond b map.empty (f q)) ≡ cond b (f source) (f q)
    twice true = refl
    twice false = refl
