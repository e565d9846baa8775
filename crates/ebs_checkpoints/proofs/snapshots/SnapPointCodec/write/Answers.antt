use Rattle.std.proofs.Common.{◌≡◌, ℕ, List, ◌++◌, append_assoc, ap, ◌∙◌}
use Rattle.ebs_checkpoints.specs.Snapshots.{named, origins, times, upload, told, states, held}
use Rattle.ebs_checkpoints.proofs.snapshots.SnapPointCodec.write.Goals as goal

joined : (o a b x n : List ℕ) → x ≡ o ++ a → n ≡ x ++ b → n ≡ o ++ (a ++ b)
joined o a b x n e f = f ∙ ap (λ (y : List ℕ). y ++ b) e ∙ append_assoc o a b

seven : (o a b c d e f g p q r s t u n : List ℕ) → p ≡ o ++ a → q ≡ p ++ b → r ≡ q ++ c → s ≡ r ++ d → t ≡ s ++ e → u ≡ t ++ f → n ≡ u ++ g → n ≡ o ++ (a ++ (b ++ (c ++ (d ++ (e ++ (f ++ g))))))
seven o a b c d e f g p q r s t u n is-p is-q is-r is-s is-t is-u is-n =
    joined o a _ p n is-p (joined p b _ q n is-q (joined q c _ r n is-r (joined r d _ s n is-s (joined s e _ t n is-t (joined t f g u n is-u is-n)))))

pub returns : goal.returns
returns c =
    let v = c.args.self.now in
    seven c.args.out.now.items (named (v.key, (v.size, v.line))) (origins (v.parent, (v.volume, v.policy))) (times (v.start, (v.timeout, v.last))) (upload (v.completed, v.put))
    (told (v.description, (v.tags, (v.shared, v.public)))) (states (v.lock, (v.tier, v.bin_end))) (held (v.node, v.copies)) _ _ _ _ _ _ _
    c.in_ok-write_named.ensures c.in_ok-write_origins.ensures c.in_ok-write_times.ensures c.in_ok-write_upload.ensures c.in_ok-write_told.ensures c.in_ok-write_states.ensures c.in_ok-write_held.ensures
