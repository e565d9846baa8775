use Rattle.std.proofs.Common.{refl, ◌==◌}
use Rattle.std.specs.Prelude.{slice_index}
use Rattle.ebs_tokens.proofs.Texts.{if_none, no_page_text}
use Rattle.ebs_tokens.proofs.Blocks.{bad_key}
use Rattle.ebs_tokens.proofs.Pages.{field_places, read_back}
use Rattle.ebs_tokens.proofs.page.read_page_token.Goals as goal

pub returns-in_err-bytes-clause-none : goal.returns-in_err-bytes-clause-none
returns-in_err-bytes-clause-none c =
    if_none _ c.from_residual.result
    (λ field h.
    no_page_text c.args.secret.now field.changed field.first field.second field.index field.expiry.second c.args.text.now c.in_err-bytes.ensures.none)

pub returns-in_err-first-clause-none : goal.returns-in_err-first-clause-none
returns-in_err-first-clause-none c =
    if_none _ c.from_residual-in_err-first.result
    (λ field h same.
    let bytes = c.in_ok-bytes.bytes in
    let places = field_places c.args.secret.now field c.args.text.now bytes h same c.in_ok-bytes.ensures.some in
    bad_key bytes 1 field.first h.0.0 h.0.1 places.account_there places.number_there c.in_err-first.ensures.none)

pub returns-in_err-second-clause-none : goal.returns-in_err-second-clause-none
returns-in_err-second-clause-none c =
    if_none _ c.from_residual-in_err-second.result
    (λ field h same.
    let bytes = c.in_ok-bytes.bytes in
    let places = field_places c.args.secret.now field c.args.text.now bytes h same c.in_ok-bytes.ensures.some in
    bad_key bytes 13 field.second h.1.0 h.1.1 places.second_account_there places.second_number_there c.in_err-second.ensures.none)

pub returns-else-is_sealed-clause-none : goal.returns-else-is_sealed-clause-none
returns-else-is_sealed-clause-none c field h same =
    let bytes = c.in_ok-bytes.bytes in
    let first = c.in_ok-first.ensures.some in
    let second = c.in_ok-second.ensures.some in
    let good = read_back c.args.secret.now c.args.text.now bytes (slice_index bytes 0 == 3) c.in_ok-first.first c.in_ok-second.second
    c.u32_at-index.result c.u64_at.result field h same c.in_ok-bytes.ensures.some refl first.1 first.2 second.1 second.2
    c.u32_at-index.ensures c.u64_at.ensures in
    cc (good, c.page_frame-frame.ensures, c.is_sealed.ensures, c.if-is_sealed.false)
