-- Stamps are given once, through each change.
use Rattle.std.proofs.Common.{◌≡◌, ℕ, ◌+◌, ◌<◌, arith, refl, sym, ap, subst, List}
use Rattle.ebs_model.specs.declared.request.Request.{Request}
use Rattle.ebs_model.specs.declared.request.Request.TheVariants.{PutSnapshotBlock, WriteVolumeBlock}
use Rattle.ebs_model.specs.Arrays.{WholeBlock}
use Rattle.ebs_model.specs.Machine.{Machine, advance}
use Rattle.ebs_model.specs.Step.{writes_of}
use Rattle.ebs_recovery.specs.inner.Stands.{EachBlock}
use Rattle.ebs_recovery.proofs.Outcomes.{IfWrites, IsAfter, stayed, moved, is_after, comes, next_stamp, each_aged}
use Rattle.ebs_recovery.proofs.First.{no_blocks}
use Rattle.ebs_lawful_points.specs.Blocks.{HasStamps, EmptyHasStamps, CallsKeepStamps, TimeKeepsStamps}

-- the block that a request writes
if-writes : (P : WholeBlock → Type 0) (stamp : ℕ) (request : Request) → ((bytes : List ℕ) → writes_of request ≡ 1 → P (record { stamp = stamp; bytes = bytes })) → IfWrites P stamp request
if-writes P stamp (PutSnapshotBlock key index digest bytes) h = h bytes refl
if-writes P stamp (WriteVolumeBlock key index digest bytes) h = h bytes refl
if-writes P stamp request h = tt

module _ (m n : Machine) (request : Request) (after : IsAfter m request n) (old : HasStamps m) (next : n.stamps ≡ m.stamps + writes_of request) where
  abbrev Alike : WholeBlock → WholeBlock → Type 0
  Alike y x = x.stamp ≡ y.stamp → x ≡ y

  given-after : EachBlock (λ x. x.stamp < n.stamps) n
  given-after = comes (λ x. x.stamp < n.stamps) m (λ key index x e. let was = old.given key index x e in omega (arith, was, next)) request n after
      (if-writes (λ x. x.stamp < n.stamps) m.stamps request (λ bytes one. omega (arith, one, next)))

  -- a block that was there is alike to each that has its stamp
  old-alike : (y : WholeBlock) → y.stamp < m.stamps → EachBlock (Alike y) m → EachBlock (Alike y) n
  old-alike y low each = comes (Alike y) m each request n after (if-writes (Alike y) m.stamps request (λ bytes one same. absurd (omega (arith, low, same))))

  -- and so is the new one
  new-alike : (y : WholeBlock) → y.stamp ≡ m.stamps → IfWrites (Alike y) m.stamps request → EachBlock (Alike y) n
  new-alike y is wrote = comes (Alike y) m (λ key index x e same. let was = old.given key index x e in absurd (omega (arith, was, same, is))) request n after wrote

  made-alike : (r : Request) → request ≡ r → IfWrites (λ y. EachBlock (Alike y) n) m.stamps r
  made-alike (PutSnapshotBlock key index digest bytes) is = new-alike (record { stamp = m.stamps; bytes = bytes }) refl (subst (IfWrites (Alike (record { stamp = m.stamps; bytes = bytes })) m.stamps) (sym is) (λ same. refl))
  made-alike (WriteVolumeBlock key index digest bytes) is = new-alike (record { stamp = m.stamps; bytes = bytes }) refl (subst (IfWrites (Alike (record { stamp = m.stamps; bytes = bytes })) m.stamps) (sym is) (λ same. refl))
  made-alike r is = tt

  stamps-after : HasStamps n
  stamps-after = record {
    given = given-after;
    one = comes (λ y. EachBlock (Alike y) n) m (λ key index y e. old-alike y (old.given key index y e) (old.one key index y e)) request n after (made-alike request refl);
  }

after-stamps : (m n : Machine) (request : Request) → IsAfter m request n → HasStamps m → HasStamps n
after-stamps m n request (stayed is) old = subst HasStamps (sym is) old
after-stamps m n request (moved c of is) old = let after : IsAfter m request n = moved c of is in stamps-after m n request after old (next_stamp m request n (ap (λ (x : Machine). x.changes) is) after)

pub calls-stamps : CallsKeepStamps
calls-stamps hash m account request n answer e old = after-stamps m n request (is_after hash m account request n answer e) old

pub time-stamps : TimeKeepsStamps
time-stamps m now old = record {
  given = each_aged (λ x. x.stamp < m.stamps) m now old.given;
  one = each_aged (λ y. EachBlock (λ x. x.stamp ≡ y.stamp → x ≡ y) (advance m now)) m now (λ key index y e. each_aged (λ x. x.stamp ≡ y.stamp → x ≡ y) m now (old.one key index y e));
}

pub empty-stamps : EmptyHasStamps
empty-stamps secret = record { given = no_blocks _ secret; one = no_blocks _ secret }
