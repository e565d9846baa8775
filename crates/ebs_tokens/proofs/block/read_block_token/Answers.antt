use Rattle.ebs_tokens.proofs.Texts.{if_none, no_block_text}
use Rattle.ebs_tokens.proofs.Blocks.{field_places, bad_key, read_back}
use Rattle.ebs_tokens.proofs.block.read_block_token.Goals as goal

pub returns-in_err-bytes-clause-none : goal.returns-in_err-bytes-clause-none
returns-in_err-bytes-clause-none c =
    if_none _ c.from_residual.result
    (λ field h. no_block_text c.args.secret.now field.key field.index field.expiry.second c.args.text.now c.in_err-bytes.ensures.none)

pub returns-in_err-key-clause-none : goal.returns-in_err-key-clause-none
returns-in_err-key-clause-none c =
    if_none _ c.from_residual-in_err-key.result
    (λ field h same.
    let bytes = c.in_ok-bytes.bytes in
    let places = field_places c.args.secret.now field c.args.text.now bytes h same c.in_ok-bytes.ensures.some in
    bad_key bytes 1 field.key h.0.0 h.0.1 places.account_there places.number_there c.in_err-key.ensures.none)

pub returns-else-is_sealed-clause-none : goal.returns-else-is_sealed-clause-none
returns-else-is_sealed-clause-none c field h same =
    let key = c.in_ok-key.ensures.some in
    let good = read_back c.args.secret.now c.args.text.now c.in_ok-bytes.bytes c.in_ok-key.key c.u32_at-index.result c.u64_at.result field h same
    c.in_ok-bytes.ensures.some key.1 key.2 c.u32_at-index.ensures c.u64_at.ensures in
    cc (good, c.block_frame.ensures, c.is_sealed.ensures, c.if-is_sealed.false)
