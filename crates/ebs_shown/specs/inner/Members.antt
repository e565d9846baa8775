-- Beside what is promised: the objects of an answer, member by member: `put` keeps the keys in ascending order.
use Rattle.std.specs.Prelude.{List, map}
use Rattle.serde_json.specs.Data.{Members, Data}
use Rattle.serde_json.specs.View.{members_view, view}
use Rattle.ebs_shown.specs.declared.object.Object.{Object}
use Rattle.ebs_shown.specs.declared.array.Array.{Array}

-- what an object of the program has
abbrev pub members_of : Object → Members
members_of o = members_view o.members.entries

-- what an array of the program has
abbrev pub items_of_array : Array → List Data
items_of_array a = map view a.items.items
