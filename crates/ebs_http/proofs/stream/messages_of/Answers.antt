use Rattle.std.proofs.Common.{List, ◌++◌, ℕ, ap, ◌∙◌, Vec, Global}
use Rattle.ebs_http.specs.inner.Waiting.{Waiting}
use Rattle.ebs_http.proofs.StreamLemmas.{reads_piece}
use Rattle.ebs_http.proofs.stream.messages_of.Goals as goal

pub loop-piece-preserved : goal.loop-piece-preserved
loop-piece-preserved c =
    let fed = ap (λ (w : Waiting). w.bytes) c.in_ok-feed.ensures.ok ∙ ap (λ (x : List ℕ). c.loop-piece.framer.bytes ++ x) c.as_slice.ensures.value in
    reads_piece (λ (p : Vec ℕ Global). p.items) c.args.pieces.now c.loop-piece.piece-index c.piece-item.result c.loop-piece-test.true
    c.piece-item.is _ _ _ _ _ fed c.in_ok-drain.ensures.reads c.loop-piece.invariant
