use Rattle.std.proofs.Common.{List, ℕ, drop, length, sym, ap, ◌∙◌, arith, length-append}
use Rattle.httparse.specs.Grammar.{print_request}
use Rattle.ebs_http.specs.Messages.{body_length}
use Rattle.ebs_http.proofs.ReceivedLemmas.{same_headers}
use Rattle.ebs_http.proofs.received.read_whole.Goals as goal

pub returns-in-None : goal.returns-in-None
returns-in-None c =
    let h = c.requires.head.1.0 in
    let at = c.requires.head.1.1 in
    let headers = c.in_ok-headers.ensures ∙ same_headers _ _ _ at.fields in
    (h, drop c.args.spans.now.len c.args.front.now, at.reads, sym (c.in-None.ensures ∙ ap body_length headers))

pub returns-then-body_len-gt-MAX_BODY_BYTES : goal.returns-then-body_len-gt-MAX_BODY_BYTES
returns-then-body_len-gt-MAX_BODY_BYTES c =
    let h = c.requires.head.1.0 in
    let at = c.requires.head.1.1 in
    let headers = c.in_ok-headers.ensures ∙ same_headers _ _ _ at.fields in (
      h,
      drop c.args.spans.now.len c.args.front.now,
      at.reads,
      (sym (c.in-Some.ensures ∙ ap body_length headers), c.if-body_len-gt-MAX_BODY_BYTES.true),
    )

pub returns-in_ok-from_slice-in-Some-2 : goal.returns-in_ok-from_slice-in-Some-2
returns-in_ok-from_slice-in-Some-2 c =
    let h = c.requires.head.1.0 in
    let at = c.requires.head.1.1 in
    let headers = c.in_ok-headers.ensures ∙ same_headers _ _ _ at.fields in
    let whole = ap (λ (x : List ℕ). length x) at.reads.1 in
    let parts = length-append (print_request h) (drop c.args.spans.now.len c.args.front.now) in (
      h,
      record {
        reads = at.reads;
        len = at.len;
        head_fits = omega (arith, whole, parts, c.requires.short);
        fields_fit = c.requires.head.1.2;
        method = c.in_ok-from_slice-in-Some.ensures ∙ (c.of.ensures ∙ at.method);
        target = c.in_ok-from_slice-in-Some-2.ensures ∙ (c.of-in-Some.ensures ∙ at.path);
        headers = headers;
        stated = sym (c.in-Some.ensures ∙ ap body_length headers);
        body_fits = c.if-body_len-gt-MAX_BODY_BYTES.false;
      },
    )
