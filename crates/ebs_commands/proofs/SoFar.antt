-- The runs of some policies, one after another.
use Rattle.std.proofs.Common.{◌≡◌, ◌&&◌, Bool, true, false, ◌∙◌, ◌≤◌, ◌<◌, ◌++◌, ◌+◌, ℕ, suc, List, [], ◌∷◌, Ok, Err, inr, length, take, drop, get_or, map, refl, sym, ap, subst, append_assoc, arith}
use Rattle.std.proofs.lemmas.List.{flat_map_more, get_or-map, length-map, map-append}
use Rattle.std.proofs.KnownBytes.{Appends-trans}
use Rattle.std.proofs.Math.Seq.{split_at, take-suc}
use Rattle.std.specs.Io.KnownBytes.{Appends}
use Rattle.std.specs.List.{list_all}
use Rattle.ebs_world.specs.Ends.{Outlet}
use Rattle.ebs_model.specs.Quotas.{Rose}
use Rattle.ebs_world.specs.View.{View}
use Rattle.ebs_model.specs.declared.keys.AnyKey.{AnyKey}
use Rattle.ebs_model.specs.declared.keys.AnyKey.TheVariants as any
use Rattle.ebs_model.specs.declared.keys.Moment.{Moment}
use Rattle.ebs_model.specs.declared.keys.PolicyKey.{PolicyKey}
use Rattle.ebs_model.specs.declared.answer.Answer.{Answer}
use Rattle.ebs_recovery.specs.inner.Fits.{Seen}
use Rattle.ebs_commands.specs.Ends.{Wrote}
use Rattle.ebs_commands.specs.Lines.{run_line}
use Rattle.ebs_commands.specs.inner.Chains.{Applies, Chain}
use Rattle.ebs_commands.specs.Ticks.{Asked, Ends, RunAnswer, Tell, goes_on, keys_in, run_asked, run_calls}
use Rattle.ebs_commands.specs.inner.Ticks.{RunEnds, RunsAll, RunsOnce}
use Rattle.ebs_commands.specs.declared.ending.CommandEnd.{CommandEnd}
use Rattle.ebs_commands.specs.declared.ending.CommandEnd.TheVariants.{Done, DiskFailed, AlreadyMade, OutputFailed, Memory, Damaged, Exhausted}

-- these policies were run, and their lines were written
pub record SoFar {D : Type 0} (view : D → View) (sound : Type 0) (reading : Moment) (keys : List PolicyKey) (d : D) (s : Seen) (e : D) (t : Seen) (before after : Outlet) : Type 0 where
  pub runs : List RunAnswer
  pub keys_are : keys_in runs ≡ keys
  pub chain : Chain view sound d s (run_calls reading runs) e t
  pub told : Tell runs before after

pub chain_more : {D : Type 0} (view : D → View) (sound : Type 0) (d : D) (s : Seen) (xs : List (Asked × Answer)) (m : D) (b : Seen) (x : Asked) (answer : Answer) (e : D) (t : Seen)
    → Chain view sound d s xs m b → Applies view sound m b x answer e t → Chain view sound d s (xs ++ (x, answer) ∷ []) e t
chain_more view sound d s [] m b x answer e t chain applies = (e, t, rw (chain.0, chain.1) at applies, (refl, refl))
chain_more view sound d s (y ∷ xs) m b x answer e t (mid, between, first, rest) applies = (mid, between, first, chain_more view sound mid between xs m b x answer e t rest applies)

le_then : (a b c : ℕ) → a ≤ b → b ≤ c → a ≤ c
le_then a b c first second = omega (arith, first, second)

-- calls don't take a count of faults back
chain_count : {D : Type 0} (view : D → View) (sound : Type 0) (d : D) (s : Seen) (xs : List (Asked × Answer)) (e : D) (t : Seen) → Chain view sound d s xs e t → (view d).faults ≤ (view e).faults
chain_count view sound d s [] e t chain = subst (λ x. (view d).faults ≤ (view x).faults) (sym chain.0) (omega arith)
chain_count view sound d s (x ∷ xs) e t (mid, between, first, rest) = le_then _ _ _ first.ran.ran.count (chain_count view sound mid between xs e t rest)

rose_since : (a b c : ℕ) → a ≤ b → Rose b c → Rose a c
rose_since a b c later rose = omega (arith, later, rose)

-- the ids are those of the keys, and this one stands at place i
module _ (ids : List AnyKey) (keys : List PolicyKey) (i : ℕ) (item : AnyKey) (are : ids ≡ map any.Policy keys) (small : i < length ids) (stands : item ≡ get_or ids i item) where
  key_small : i < length keys
  key_small = subst (λ (n : ℕ). i < n) (ap (λ (xs : List AnyKey). length xs) are ∙ length-map keys any.Policy) small

  pub item_is : (other : PolicyKey) → item ≡ any.Policy (get_or keys i other)
  item_is other = stands ∙ ap (λ (xs : List AnyKey). get_or xs i item) are ∙ get_or-map any.Policy keys i other item key_small

  key_is : (key : PolicyKey) → item ≡ any.Policy key → get_or keys i key ≡ key
  key_is key is = let same : any.Policy (get_or keys i key) ≡ any.Policy key = sym (item_is key) ∙ is in cc

  pub keys_more : (key : PolicyKey) → item ≡ any.Policy key → take i keys ++ key ∷ [] ≡ take (i + 1) keys
  keys_more key is =
      let next : suc i ≡ i + 1 = omega arith in
      subst (λ (n : ℕ). take i keys ++ key ∷ [] ≡ take n keys) next (sym (take-suc keys i key key_small ∙ ap (λ (k : PolicyKey). take i keys ++ k ∷ []) (key_is key is)))

  pub keys_from : (key : PolicyKey) → item ≡ any.Policy key → keys ≡ take i keys ++ key ∷ drop (suc i) keys
  keys_from key is = split_at keys i key key_small ∙ ap (λ (k : PolicyKey). take i keys ++ k ∷ drop (suc i) keys) (key_is key is)

both : (a b c : Bool) → (a && b) ≡ true → (b ≡ true → c ≡ true) → (a && c) ≡ true
both true b c all more = more all
both false b c all more = all

module _ {D : Type 0} (view : D → View) (sound : Type 0) (reading : Moment) (keys : List PolicyKey) (key : PolicyKey) (d : D) (s : Seen) (e : D) (t : Seen) (f : D) (u : Seen) (before middle after : Outlet) where
  keys_then : (runs : List RunAnswer) (answer : Answer) → keys_in runs ≡ keys → keys_in (runs ++ (key, answer) ∷ []) ≡ keys ++ key ∷ []
  keys_then runs answer is = map-append (λ (r : RunAnswer). r.0) runs ((key, answer) ∷ []) ∙ ap (λ (ks : List PolicyKey). ks ++ key ∷ []) is

  chain_then : (runs : List RunAnswer) (answer : Answer) → Chain view sound d s (run_calls reading runs) e t → Applies view sound e t (run_asked reading key) answer f u
      → Chain view sound d s (run_calls reading (runs ++ (key, answer) ∷ [])) f u
  chain_then runs answer chain applies =
      subst (λ (calls : List (Asked × Answer)). Chain view sound d s calls f u) (sym (map-append (λ (r : RunAnswer). (run_asked reading r.0, r.1)) runs ((key, answer) ∷ [])))
      (chain_more view sound d s (run_calls reading runs) e t (run_asked reading key) answer f u chain applies)

  all_then : (runs : List RunAnswer) (answer : Answer) → list_all (λ (r : RunAnswer). goes_on r.1) runs ≡ true → goes_on answer ≡ true → list_all (λ (r : RunAnswer). goes_on r.1) (runs ++ (key, answer) ∷ []) ≡ true
  all_then [] answer all on = rw on refl
  all_then (r ∷ runs) answer all on = both (goes_on r.1) _ _ all (λ rest. all_then runs answer rest on)

  told_then : (runs : List RunAnswer) (answer : Answer) → Tell runs before middle → (goes_on answer ≡ true) × Wrote middle after (run_line key answer) → Tell (runs ++ (key, answer) ∷ []) before after
  told_then runs answer (all, first) (on, second) = (all_then runs answer all on, (subst (Appends before.written after.written) (flat_map_more (λ (r : RunAnswer). run_line r.0 r.1) [] runs (key, answer)) (Appends-trans before.written middle.written after.written _ _ first.0 second.0), second.1 ∙ first.1))

  -- one more policy was run
  pub one_more : (v : Unit {0}) → SoFar view sound reading keys d s e t before middle → RunsOnce view sound (Ok v) reading key e t f u middle after → SoFar view sound reading (keys ++ key ∷ []) d s f u before after
  one_more v so once = record {
    runs = so.runs ++ (key, once.answer) ∷ [];
    keys_are = keys_then so.runs once.answer so.keys_are;
    chain = chain_then so.runs once.answer so.chain once.applies;
    told = told_then so.runs once.answer so.told once.ends;
  }

  ends_then : (end : CommandEnd) (all rest : List PolicyKey) (runs : List RunAnswer) (answer : Answer) → all ≡ keys_in (runs ++ (key, answer) ∷ []) ++ rest → (view d).faults ≤ (view e).faults → Tell runs before middle
      → RunEnds (Err end) (Rose (view e).faults (view f).faults) key answer middle after → Ends end (Rose (view d).faults (view f).faults) all (runs ++ (key, answer) ∷ []) before after
  ends_then DiskFailed all rest runs answer is later told (rose, why, still) = (rose_since _ _ _ later rose, (runs, (key, answer), rest, refl, is, why, rw still told))
  ends_then Memory all rest runs answer is later told still = (runs, rest, is, inr ((key, answer), refl), rw still told)
  ends_then OutputFailed all rest runs answer is later told (on, failed) = (runs, (key, answer), rest, refl, is, middle, told, on, failed)
  ends_then Done all rest runs answer is later told ends = absurd ends
  ends_then AlreadyMade all rest runs answer is later told ends = absurd ends
  ends_then Damaged all rest runs answer is later told ends = absurd ends
  ends_then Exhausted all rest runs answer is later told ends = absurd ends

  -- the last of the runs ended the command
  pub last_run : (end : CommandEnd) (all rest : List PolicyKey) → all ≡ keys ++ key ∷ rest → SoFar view sound reading keys d s e t before middle → RunsOnce view sound (Err end) reading key e t f u middle after → RunsAll view sound end reading all d s f u before after
  last_run end all rest is so once = record {
    runs = so.runs ++ (key, once.answer) ∷ [];
    chain = chain_then so.runs once.answer so.chain once.applies;
    ends =
        ends_then end all rest so.runs once.answer
        (is ∙ sym (append_assoc keys (key ∷ []) rest) ∙ ap (λ (ks : List PolicyKey). ks ++ rest) (sym (keys_then so.runs once.answer so.keys_are)))
        (chain_count view sound d s (run_calls reading so.runs) e t so.chain) so.told once.ends;
  }
