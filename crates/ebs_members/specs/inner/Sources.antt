-- Beside what is promised: where members stand: in the path, the query, the header fields, or a JSON object.
use Rattle.serde_json.specs.View.{view}
use Rattle.ebs_members.specs.declared.source.Source.{Source}
use Rattle.ebs_members.specs.declared.source.Source.TheVariants.{Path, Query, Fields, Body}
use Rattle.ebs_members.specs.declared.source.Found.{Found}
use Rattle.ebs_members.specs.declared.source.Found.TheVariants.{Text, Json}
use Rattle.ebs_members.specs.Sources.{Members, in_body, in_fields, in_path, in_query, Given, given_json, given_text}

-- the same of the program's own types
abbrev pub found : Source → Members
found (Path captures) = in_path captures.params.text.now captures.params.path.now
found (Query pairs) = in_query pairs.now
found (Fields fields) = in_fields fields.now
found (Body body) = in_body (view body.now)

abbrev pub seen : Found → Given
seen (Text bytes) = given_text bytes.now
seen (Json value) = given_json (view value.now)
