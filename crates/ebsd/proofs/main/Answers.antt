use Rattle.std.proofs.Common.{refl, arith}
use Rattle.ebsd.proofs.main.Goals as goal

pub serve-end-requires-clause-few : goal.serve-end-requires-clause-few
serve-end-requires-clause-few g c κs = let few = (c.read_server_words.ensures c.in-Some.port c.in-Some.workers).0 c.in-Some.is in omega (arith, c.in-Ok-posts_at.ensures, few.4.2)
