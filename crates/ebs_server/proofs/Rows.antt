-- Hands in a row, and the ends of their posts.
use Rattle.std.proofs.Common.{◌≡◌, ◌<◌, ◌+◌, ℕ, zero, suc, List, [], ◌∷◌, ◌++◌, length, slice_index_or, take, map, reverse, All, refl, sym, ap, ◌∙◌, subst, append_assoc, arith}
use Rattle.std.proofs.lemmas.List.{append-nil, reverse-append, reverse-reverse, map-append}
use Rattle.std.proofs.Math.Seq.{take-append_seam}
use Rattle.ebs_doors.specs.Doors.{Door}
use Rattle.ebs_server.specs.declared.hand.Hand.{Hand}
use Rattle.ebs_server.specs.declared.hand.Task.{Task}
use Rattle.ebs_server.specs.declared.hand.Task.TheVariants.{Serve, Collect}
use Rattle.ebs_server.specs.declared.post.Post.{Post}
use Rattle.ebs_server.specs.declared.post.PostEnd.{PostEnd}
use Rattle.ebs_server.specs.Posts.{IsPostEnd, AreEnded}
use Rattle.ebs_server.specs.Hands.{IsDone, AreDone, task_of, ends_in, ends_back}

module _ {L K : Type 0} where
  head_is : (x : Task L K) (xs : List (Task L K)) (y : Task L K) (ys : List (Task L K)) → x ∷ xs ≡ y ∷ ys → x ≡ y
  head_is x xs y ys e = cc

  tail_is : (x : Task L K) (xs : List (Task L K)) (y : Task L K) (ys : List (Task L K)) → x ∷ xs ≡ y ∷ ys → xs ≡ ys
  tail_is x xs y ys e = cc

module _ {L K P : Type 0} where
  pub ends_back-snoc : (hands : List (Hand L K P)) (x : Hand L K P) → ends_back (hands ++ x ∷ []) ≡ ends_in x.task x.end ++ ends_back hands
  ends_back-snoc [] x = sym (append-nil (ends_in x.task x.end))
  ends_back-snoc (h ∷ hs) x = ap (λ ends. ends ++ ends_in h.task h.end) (ends_back-snoc hs x) ∙ append_assoc (ends_in x.task x.end) (ends_back hs) (ends_in h.task h.end)

module _ {L K : Type 0} (door : L → Door) where
  ended_snoc : (posts : List (Post L K)) (ends : List (Post L K × PostEnd)) (post : Post L K) (last : Post L K × PostEnd) → AreEnded door posts ends → IsPostEnd (door post.listener) (door last.0.listener) last.1
      → AreEnded door (posts ++ post ∷ []) (ends ++ last ∷ [])
  ended_snoc [] [] post last all one = (one, tt)
  ended_snoc [] (e ∷ es) post last all one = absurd all
  ended_snoc (p ∷ ps) [] post last all one = absurd all
  ended_snoc (p ∷ ps) ((left, end) ∷ es) post last (first, all) one = (first, ended_snoc ps es post last all one)

  module _ {P : Type 0} where
    -- a post's hand behind the others
    one_more : (post : Post L K) (x y : Hand L K P) (posts : List (Post L K)) (ends : List (Post L K × PostEnd)) → x.task ≡ Serve post → IsDone door x.task y.task y.end → AreEnded door posts ends
        → AreEnded door (posts ++ post ∷ []) (ends ++ ends_in y.task y.end)
    one_more post x y posts ends is done all = by_task y.task (subst (λ task. IsDone door task y.task y.end) is done)
      where
        by_task : (task : Task L K) → IsDone door (Serve post) task y.end → AreEnded door (posts ++ post ∷ []) (ends ++ ends_in task y.end)
        by_task (Serve left) ends_so = ended_snoc posts ends post (left, y.end) all ends_so
        by_task (Collect clock) none = absurd none

    -- the collector's hand has no post
    no_more : (clock : K) (x y : Hand L K P) → x.task ≡ Collect clock → IsDone door x.task y.task y.end → ends_in y.task y.end ≡ []
    no_more clock x y is done = by_task y.task (subst (λ task. IsDone door task y.task y.end) is done)
      where
        by_task : (task : Task L K) → IsDone door (Collect clock) task y.end → ends_in task y.end ≡ []
        by_task (Serve left) none = absurd none
        by_task (Collect later) unit = refl

    -- hands for these posts and the collector, behind their tasks
    backwards : (posts : List (Post L K)) (clock : K) (old new : List (Hand L K P)) → map task_of old ≡ map Serve posts ++ Collect clock ∷ [] → AreDone door old new → AreEnded door (reverse posts) (ends_back new)
    backwards [] clock [] new is done = absurd (cc)
    backwards [] clock (x ∷ []) (y ∷ []) is (one, unit) = subst (AreEnded door []) (sym (no_more clock x y (head_is _ _ _ _ is) one)) tt
    backwards [] clock (x ∷ []) (y ∷ z ∷ zs) is (one, more) = absurd more
    backwards [] clock (x ∷ w ∷ ws) new is done = absurd (cc)
    backwards [] clock (x ∷ []) [] is done = absurd done
    backwards (p ∷ ps) clock [] new is done = absurd (cc)
    backwards (p ∷ ps) clock (x ∷ xs) [] is done = absurd done
    backwards (p ∷ ps) clock (x ∷ xs) (y ∷ ys) is (one, more) =
        subst (λ posts. AreEnded door posts (ends_back ys ++ ends_in y.task y.end)) (sym (reverse-append (p ∷ []) ps))
        (one_more p x y (reverse ps) (ends_back ys) (head_is _ _ _ _ is) one (backwards ps clock xs ys (tail_is _ _ _ _ is) more))

pub all_one : {X : Type 0} (P : X → Type 0) (x : X) → P x → All P (x ∷ [])
all_one P x p zero d lt = p
all_one P x p (suc k) d lt = absurd (omega arith)

module _ {L K P : Type 0} where
  -- a hand more, for the last post that is left
  pub tasks_on : (hands : List (Hand L K P)) (x : Hand L K P) (posts rest : List (Post L K)) (post : Post L K) (all : List (Task L K)) → x.task ≡ Serve post → posts ≡ rest ++ post ∷ []
      → map task_of hands ++ map Serve (reverse posts) ≡ all → map task_of (hands ++ x ∷ []) ++ map Serve (reverse rest) ≡ all
  tasks_on hands x posts rest post all task is before =
      ap (λ tasks. tasks ++ map Serve (reverse rest)) (map-append task_of hands (x ∷ []))
      ∙ append_assoc (map task_of hands) (x.task ∷ []) (map Serve (reverse rest))
      ∙ ap (λ (t : Task L K). map task_of hands ++ t ∷ map Serve (reverse rest)) task
      ∙ ap (λ (ps : List (Post L K)). map task_of hands ++ map Serve ps) (sym (ap reverse is ∙ reverse-append rest (post ∷ [])))
      ∙ before

  -- one hand less, whose post is given back
  pub ends_on : (old new all : List (Post L K × PostEnd)) (hands rest : List (Hand L K P)) (x : Hand L K P) → hands ≡ rest ++ x ∷ [] → new ≡ old ++ ends_in x.task x.end → old ++ ends_back hands ≡ all → new ++ ends_back rest ≡ all
  ends_on old new all hands rest x is more before =
      ap (λ ends. ends ++ ends_back rest) more
      ∙ append_assoc old (ends_in x.task x.end) (ends_back rest)
      ∙ ap (λ ends. old ++ ends) (sym (ap ends_back is ∙ ends_back-snoc rest x))
      ∙ before

  -- what is done at each place is done in a row
  pub done_each : (door : L → Door) (old new : List (Hand L K P)) → length old ≡ length new
      → ((i : ℕ) (d : Hand L K P) → i < length old → IsDone door (slice_index_or old i d).task (slice_index_or new i d).task (slice_index_or new i d).end) → AreDone door old new
  done_each door [] [] same each = tt
  done_each door [] (y ∷ ys) same each = absurd (omega arith)
  done_each door (x ∷ xs) [] same each = absurd (omega arith)
  done_each door (x ∷ xs) (y ∷ ys) same each = (each 0 x (omega arith), done_each door xs ys (omega arith) (λ i d lt. each (suc i) d (omega arith)))

  -- the tasks of hands and of one behind them
  pub tasks_with : (hands all : List (Hand L K P)) (x : Hand L K P) (tasks : List (Task L K)) (last : Task L K) → all ≡ hands ++ x ∷ [] → map task_of hands ≡ tasks → x.task ≡ last → map task_of all ≡ tasks ++ last ∷ []
  tasks_with hands all x tasks last is before task = ap (map task_of) is ∙ map-append task_of hands (x ∷ []) ∙ (λ i. before i ++ task i ∷ [])

  -- the posts of a server, given back
  pub given_back : (door : L → Door) (posts : List (Post L K)) (clock : K) (old new : List (Hand L K P)) → map task_of old ≡ map Serve (reverse posts) ++ Collect clock ∷ [] → AreDone door old new → AreEnded door posts (ends_back new)
  given_back door posts clock old new tasks done = subst (λ ps. AreEnded door ps (ends_back new)) (reverse-reverse posts) (backwards door (reverse posts) clock old new tasks done)

-- what stands in a list that was written from its beginning to its end
pub written : {X : Type 0} (new rest : List X) (n : ℕ) → length new ≡ n → take n (new ++ rest) ≡ new
written new rest n e = ap (λ k. take k (new ++ rest)) (sym e) ∙ take-append_seam new rest
