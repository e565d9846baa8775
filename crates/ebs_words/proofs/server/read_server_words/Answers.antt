use Rattle.std.proofs.Common.{map, string_bytes, ap, sym, ◌∙◌, ◌∷◌, [], arith}
use Rattle.ebs_words.proofs.Numbers.{two_of, server_words}
use Rattle.ebs_words.proofs.server.read_server_words.Goals as goal

pub returns-in-len2 : goal.returns-in-len2
returns-in-len2 c = let two = two_of c.args.words.now c.first-item.result c.second-item.result (omega (arith, c.in-len2.len_at_least, c.in-len2.len_below)) c.first-item.is c.second-item.is in
    server_words _ c.as_str.result.now c.as_str-in-len2.result.now (ap (map string_bytes) two ∙ (λ i. sym c.as_str.ensures.value i ∷ sym c.as_str-in-len2.ensures.value i ∷ [])) c.read_both.result c.read_both.ensures
