-- The holders of a lineage that was grown from a checkpoint's nodes.
use Rattle.std.proofs.Common.{arith, ◌≡◌, ℕ, Bool, true, false, ◌||◌, ◌==◌, List, [], ◌∷◌, Option, None, Some, IsSome, is_some, refl, sym, ap, subst, ◌∙◌}
use Rattle.std.proofs.lemmas.Bool.{and_parts}
use Rattle.std.proofs.lemmas.Bool.Decides.{nat_tests}
use Rattle.std.specs.Option.{option_map}
use Rattle.std.specs.List.{list_all}
use Rattle.std.specs.FinMap as fin
use Rattle.ebs_checkpoints.specs.declared.nodes.NodeRow.{NodeRow}
use Rattle.ebs_lineage.specs.declared.node.Node.{Node}
use Rattle.ebs_lineage.specs.declared.node_id.NodeId.{NodeId}
use Rattle.ebs_lineage.specs.Lines.{Lines, AreLines, IsHeld}
use Rattle.ebs_node_rules.specs.Nodes as forest
use Rattle.ebs_holds.specs.declared.holder.Holder.{Holder}
use Rattle.ebs_holds.specs.Holds.{AreHeld, HeldBy}
use Rattle.ebs_regrown.specs.Regrown.{Numbers, IsRegrown, up}
use Rattle.ebs_restored.specs.Holders.{Entry, HaveNodes}
use Rattle.ebs_restored.proofs.Named.{AreNew, made, numbers, found_among, one_holder, some_holder}

none_some : {A B : Type 0} (a : A) → None ≡ Some a → B
none_some a e = absurd (cc)

some_same : {A : Type 0} (a b : A) → Some a ≡ Some b → a ≡ b
some_same a b e = cc

abbrev number_in : Option NodeId → Option ℕ
number_in o = option_map (λ (n : NodeId). n.number) o

node_same : (a b : NodeId) → a.number ≡ b.number → a ≡ b
node_same a b e = ap (λ (n : ℕ). record { number = n }) e

same_number : (a b : ℕ) → (a == b) ≡ true → a ≡ b
same_number a b e = grind (arith, nat_tests)

-- what all pass, each among them passes
at : (ns : List ℕ) (n : ℕ) (test : ℕ → Bool) → list_all test ns ≡ true → forest.is_among ns n ≡ true → test n ≡ true
at [] n test all among = absurd (cc)
at (m ∷ ns) n test all among =
    let parts = and_parts (test m) (list_all test ns) all in
    by parts.0 (λ later. at ns n test parts.1 later) (m == n) refl among
  where
    by : test m ≡ true → (forest.is_among ns n ≡ true → test n ≡ true) → (b : Bool) → (m == n) ≡ b → (b || forest.is_among ns n) ≡ true → test n ≡ true
    by here rest true is later = ap test (sym (same_number m n is)) ∙ here
    by here rest false is later = rest later

-- a holder's node stands for the one that its row names
pub record Stands (of : Numbers) (es : List Entry) (q : Holder) (n : ℕ) : Type 0 where
  pub number : ℕ
  pub named : fin.get (made es) q ≡ Some number
  pub is : fin.get of number ≡ Some n

module _ (of : Numbers) (es : List Entry) (nodes : HeldBy) (have : HaveNodes of (made es) nodes) where
  pub stands_for : (q : Holder) (n : NodeId) → fin.get nodes q ≡ Some n → Stands of es q n.number
  stands_for q n e = by (fin.get (made es) q) refl
    where
      is : Some n.number ≡ up of (fin.get (made es) q)
      is = ap number_in (sym e) ∙ have q

      by : (o : Option ℕ) → fin.get (made es) q ≡ o → Stands of es q n.number
      by None none = none_some n.number (sym (ap (up of) none) ∙ sym is)
      by (Some number) named = record { number = number; named = named; is = sym (is ∙ ap (up of) named) }

  pub held_by : (q : Holder) (number n : ℕ) → fin.get (made es) q ≡ Some number → fin.get of number ≡ Some n → (id : NodeId) × (fin.get nodes q ≡ Some id) × (id.number ≡ n)
  held_by q number n named is = by (fin.get nodes q) refl
    where
      all : number_in (fin.get nodes q) ≡ Some n
      all = have q ∙ ap (up of) named ∙ is

      by : (o : Option NodeId) → fin.get nodes q ≡ o → (id : NodeId) × (fin.get nodes q ≡ Some id) × (id.number ≡ n)
      by None none = none_some n (sym (ap number_in none) ∙ all)
      by (Some id) there = (id, there, some_same id.number n (sym (ap number_in there) ∙ all))

  module _ (rows : List NodeRow) (keep : ℕ → Bool) (l : Lines) (grown : IsRegrown rows keep of l) (lines : AreLines l.table.nodes l.made)
      (keeps : (number : ℕ) → keep number ≡ forest.is_among (numbers es) number) (distinct : forest.are_distinct (numbers es) ≡ true) (listed : forest.are_listed rows (numbers es) ≡ true) (new : AreNew es) where
    row_there : (number : ℕ) → forest.is_among (numbers es) number ≡ true → (row : NodeRow) × (forest.node_of rows (Some number) ≡ Some row)
    row_there number among = some_of (forest.node_of rows (Some number)) (each_listed (numbers es) listed number among)
      where
        some_of : {A : Type 0} (o : Option A) → IsSome o → (a : A) × (o ≡ Some a)
        some_of None some = absurd (cc)
        some_of (Some a) some = (a, refl)

        each_listed : (ns : List ℕ) → forest.are_listed rows ns ≡ true → (n : ℕ) → forest.is_among ns n ≡ true → IsSome (forest.node_of rows (Some n))
        each_listed ns all n among = at ns n (λ number. is_some (forest.node_of rows (Some number))) all among

    number_grown : (number n : ℕ) → fin.get of number ≡ Some n → forest.is_among (numbers es) number ≡ true → IsHeld l.table.nodes n
    number_grown number n is among =
        let row = row_there number among in
        let node = grown.each number row.0 row.1 in
        let same = some_same node.made n (sym node.numbered ∙ is) in
        (node.node, ap (fin.get l.table.nodes) (sym same) ∙ node.is, node.kept ∙ keeps number ∙ among)

    there : (q : Holder) (n : NodeId) → fin.get nodes q ≡ Some n → IsHeld l.table.nodes n.number
    there q n e = let s = stands_for q n e in number_grown s.number n.number s.is (found_among es q s.number s.named)

    apart : (a b : Holder) (n : NodeId) → fin.get nodes a ≡ Some n → fin.get nodes b ≡ Some n → a ≡ b
    apart a b n e f =
        let s = stands_for a n e in
        let t = stands_for b n f in
        let same : s.number ≡ t.number = grown.apart s.number t.number n.number s.is t.is in
        one_holder es a b t.number distinct (s.named ∙ ap Some same) t.named

    only : (n : NodeId) → IsHeld l.table.nodes n.number → (q : Holder) × (fin.get nodes q ≡ Some n)
    only n (x, is, held) =
        let of_row = grown.listed n.number (subst IsSome (sym is) refl) in
        let node = grown.each of_row.number of_row.row of_row.found in
        let same = some_same node.made n.number (sym node.numbered ∙ of_row.numbered) in
        let one = some_same node.node x (sym node.is ∙ ap (fin.get l.table.nodes) same ∙ is) in
        let among = sym (keeps of_row.number) ∙ sym node.kept ∙ ap (λ (y : Node). y.is_held) one ∙ held in
        let q = some_holder es of_row.number new among in
        let id = held_by q.0 of_row.number n.number q.1 of_row.numbered in
        (q.0, id.1 ∙ ap Some (node_same id.0 n id.2))

    pub are_held : AreHeld l.table.nodes l.made nodes
    are_held = record { lines = lines; apart = apart; there = there; only = only }
