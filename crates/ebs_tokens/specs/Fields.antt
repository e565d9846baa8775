-- What a token names, and the text of what it names.
use Rattle.std.specs.Prelude.{ℕ, ◌<◌, ◌^◌, List}
use Rattle.ebs_model.specs.Tokens.{block_text, page_text}
use Rattle.ebs_model.specs.declared.keys.SnapKey.{SnapKey}
use Rattle.ebs_tokens.specs.declared.block.BlockField.{BlockField}
use Rattle.ebs_tokens.specs.declared.page.PageField.{PageField}

-- the numbers that keys have
abbrev pub IsKey : SnapKey → Type 0
IsKey key = (key.account < 10 ^ 12) × (key.number < 2 ^ 28)

abbrev pub IsBlockField : BlockField → Type 0
IsBlockField field = IsKey field.key × (field.index < 2 ^ 32) × (field.expiry.second < 2 ^ 64)

abbrev pub IsPageField : PageField → Type 0
IsPageField field =
    IsKey field.first × IsKey field.second × (field.index < 2 ^ 32) × (field.expiry.second < 2 ^ 64)

abbrev pub text_of_block : List ℕ → BlockField → List ℕ
text_of_block secret field = block_text secret field.key field.index field.expiry.second

abbrev pub text_of_page : List ℕ → PageField → List ℕ
text_of_page secret field = page_text secret field.changed field.first field.second field.index field.expiry.second
