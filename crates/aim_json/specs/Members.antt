-- JSON values that are made of their parts.
use Rattle.std.specs.Prelude.{ℕ, List, [], ◌∷◌}
use Rattle.serde_json.specs.Data.{Data, number, unsigned, string, array, object, Members, no_members, put}
use Rattle.serde_json.specs.View.{items_of}

-- a number from 0 on
abbrev pub count : ℕ → Data
count n = number (unsigned n)

abbrev pub word : List ℕ → Data
word text = string text

abbrev pub list : List Data → Data
list items = array (items_of items)

-- a member of an object: its name and its value
abbrev pub Member : Type 0
Member = List ℕ × Data

-- an object's members and further ones
abbrev pub with_members : List Member → Members → Members
with_members [] there = there
with_members (m ∷ more) there = with_members more (put m.0 m.1 there)

-- the object that has these members and no others. Their order doesn't matter: an object keeps its members in the order
-- of their names
abbrev pub object_of : List Member → Data
object_of members = object (with_members members no_members)
