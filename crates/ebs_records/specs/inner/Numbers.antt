-- Beside what is promised: numbers of one width have spellings of one length, each its own, with the most significant byte first.
use Rattle.std.proofs.Common.{◌≡◌, ℕ, ◌^◌, ◌<◌, take, drop, refl, sym, ap, ◌∙◌, length}
use Rattle.std.specs.Int.{w32, from_be_bytes, w64}
use Rattle.std.proofs.lemmas.List.{take_at, drop_at}
use Rattle.std.proofs.lemmas.Nat.{from_be_bytes-to_be_bytes_4, from_be_bytes-to_be_bytes_8}
use Rattle.ebs_records.specs.Fields.{word, long}
use Rattle.ebs_records.specs.inner.Apart.{Apart}

pub apart_word : Apart {V = ℕ} (λ n. n < 2 ^ 32) word
unfolding word
apart_word v w x y a b e =
    let front : word v ≡ word w = sym (take_at (word v) x 4 refl) ∙ ap (take 4) e ∙ take_at (word w) y 4 refl in
    let back : x ≡ y = sym (drop_at (word v) x 4 refl) ∙ ap (drop 4) e ∙ drop_at (word w) y 4 refl in
    (sym (from_be_bytes-to_be_bytes_4 v a) ∙ ap (from_be_bytes w32) front ∙ from_be_bytes-to_be_bytes_4 w b, back)

pub apart_long : Apart {V = ℕ} (λ n. n < 2 ^ 64) long
unfolding long
apart_long v w x y a b e =
    let front : long v ≡ long w = sym (take_at (long v) x 8 refl) ∙ ap (take 8) e ∙ take_at (long w) y 8 refl in
    let back : x ≡ y = sym (drop_at (long v) x 8 refl) ∙ ap (drop 8) e ∙ drop_at (long w) y 8 refl in
    (sym (from_be_bytes-to_be_bytes_8 v a) ∙ ap (from_be_bytes w64) front ∙ from_be_bytes-to_be_bytes_8 w b, back)

pub word-length : (n : ℕ) → length (word n) ≡ 4
unfolding word
word-length n = refl

pub long-length : (n : ℕ) → length (long n) ≡ 8
unfolding long
long-length n = refl
