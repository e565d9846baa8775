-- Tags in JSON, printed and read back.
use Rattle.std.proofs.Common.{◌≡◌, ℕ, ◌≤◌, List, [], ◌∷◌, ◌++◌, refl, ap, arith, codes, IsUtf8, IfSome}
use Rattle.std.specs.declared.option.Option.{Option}
use Rattle.std.specs.declared.option.Option.TheVariants.{None, Some}
use Rattle.std.specs.Option.{option_map, option_and_then}
use Rattle.std.specs.List.{AllByRecursion}
use Rattle.std.proofs.Math.Nat.{max-le}
use Rattle.json.specs.Token.{Token}
use Rattle.json.specs.Tree.{items_tokens, items_depth, ItemsHaveNumbers}
use Rattle.json.proofs.Printed.Utf8.{IsUtf8-are_ascii, IsUtf8-quoted}
use Rattle.serde_json.specs.Data.{Items, no_items, item, Members, no_members, member, put, string, array, object}
use Rattle.serde_json.specs.Read.{of_items}
use Rattle.ebs_model.specs.declared.tags.Tag.{Tag}
use Rattle.ebs_members.specs.Sources.{body_of}
use Rattle.ebs_members.specs.Kinds as kind
use Rattle.ebs_client.specs.Bodies.{text_of, tags, described}
use Rattle.ebs_client.specs.Reach.{HasTexts}
use Rattle.ebs_client.proofs.Bodies.{AreTexts, body_read, open_text, close_text, key_text}

pub texts_append : (ts us : List Token) → AreTexts ts → AreTexts us → AreTexts (ts ++ us)
unfolding AreTexts
texts_append [] us h k = k
texts_append (t ∷ ts) us h k = (h.0, texts_append ts us h.1 k)

unfoldable pub tags_data : List Tag → Items
tags_data [] = no_items
tags_data (t ∷ ts) = item (object (member (codes "Key") (string t.key) (member (codes "Value") (string t.value) no_members))) (tags_data ts)

pub tags_read : (ts : List Tag) → of_items (tags ts) ≡ Some (tags_data ts)
unfolding tags_data
tags_read [] = refl
tags_read (t ∷ ts) = ap (λ read. option_map (item (object (member (codes "Key") (string t.key) (member (codes "Value") (string t.value) no_members)))) read) (tags_read ts)

pub tags_said : (ts : List Tag) → kind.all_of kind.tag_of (tags_data ts) ≡ Some ts
unfolding tags_data
tags_said [] = refl
tags_said (t ∷ ts) = ap (λ said. option_map (λ rest. t ∷ rest) said) (tags_said ts)

pub tags_numbers : (ts : List Tag) → ItemsHaveNumbers (tags ts)
tags_numbers [] = tt
tags_numbers (t ∷ ts) = ((tt, (tt, tt)), tags_numbers ts)

pub tags_depth : (ts : List Tag) → items_depth (tags ts) ≤ 1
tags_depth [] = omega arith
tags_depth (t ∷ ts) = max-le (omega arith) (tags_depth ts)

pub tags_texts : (ts : List Tag) → AllByRecursion HasTexts ts → AreTexts (items_tokens (tags ts))
unfolding AreTexts
tags_texts [] h = (IsUtf8-are_ascii (codes "]") refl, tt)
tags_texts (t ∷ ts) h =
    (open_text, (key_text (codes "Key") refl, (IsUtf8-quoted t.key h.0.0, (key_text (codes "Value") refl, (IsUtf8-quoted t.value h.0.1, (close_text, tags_texts ts h.1))))))

-- a snapshot's description and its tags
unfoldable pub described_data : Option (List ℕ) → List Tag → Members
described_data None ts = member (codes "Tags") (array (tags_data ts)) no_members
described_data (Some description) ts = member (codes "Description") (string description) (member (codes "Tags") (array (tags_data ts)) no_members)

pub described_body : (description : Option (List ℕ)) (ts : List Tag) → IfSome description IsUtf8 → AllByRecursion HasTexts ts → body_of (text_of (described description ts)) ≡ Some (object (described_data description ts))
unfolding AreTexts described_data
described_body None ts text texts =
    body_read (described None ts) (described_data None ts) (tags_numbers ts, tt) (omega (arith, tags_depth ts))
    (open_text, (key_text (codes "Tags") refl, (IsUtf8-are_ascii (codes "[") refl, texts_append (items_tokens (tags ts)) (Token.end_object ∷ []) (tags_texts ts texts) (close_text, tt))))
    (ap (λ read. option_map object (option_and_then (λ d. Some (put (codes "Tags") d no_members)) (option_map array read))) (tags_read ts))
described_body (Some description) ts text texts =
    body_read (described (Some description) ts) (described_data (Some description) ts) (tt, (tags_numbers ts, tt)) (omega (arith, tags_depth ts)) (
      open_text,
      (
        key_text (codes "Description") refl,
        (
          IsUtf8-quoted description text,
          (
            key_text (codes "Tags") refl,
            (
              IsUtf8-are_ascii (codes "[") refl,
              texts_append (items_tokens (tags ts)) (Token.end_object ∷ []) (tags_texts ts texts) (close_text, tt),
            ),
          ),
        ),
      ),
    )
    (ap (λ read. option_map object (option_and_then (λ d. Some (put (codes "Tags") d (member (codes "Description") (string description) no_members))) (option_map array read))) (tags_read ts))
