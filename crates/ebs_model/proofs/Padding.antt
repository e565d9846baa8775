-- What `{:0Wx}` and `{:0W}` write of a number: its digits, with zeros before them.
use Rattle.std.proofs.Common.{◌≡◌, ℕ, ◌-◌, ◌^◌, List, [], ◌++◌, length, false, Some, replicate, arith, ap}
use Rattle.std.proofs.lemmas.List.{append-nil}
use Rattle.std.specs.Fmt.{padded_integral, format_spec, char_count, digits, digits_output, styled_digits_output}
use Rattle.ebs_model.specs.Ids.{hex_of_width}

pub zero_padded : (width : ℕ) (numeral : List ℕ) → padded_integral (format_spec 32 0 4 width (2 ^ 64 - 1)) false [] numeral ≡ replicate (width - length numeral) 48 ++ numeral
unfolding padded_integral char_count
zero_padded width numeral =
    let same : width - length numeral - 0 - 0 ≡ width - length numeral = omega arith in
    rw (append-nil numeral) (ap (λ n. replicate n 48 ++ numeral) same)

pub shows_hex : (d : _) (s : _) (width n : ℕ) → digits_output d ≡ Some (digits 16 false n) → s ≡ format_spec 32 0 4 width (2 ^ 64 - 1) → styled_digits_output d s ≡ Some (hex_of_width width n)
shows_hex d s width n is spec = rw (spec, is) (ap Some (zero_padded width (digits 16 false n)))
