-- What a program keeps beside its classes.
use Rattle.std.specs.Prelude.{◌≡◌, ◌≤◌, List, length}
use Rattle.hierarchy.specs.declared.class.Class.{Class}
use Rattle.hierarchy.specs.declared.tables.Tables.{Tables}
use Rattle.hierarchy.specs.ClassLists.{distinct}
use Rattle.hierarchy.specs.LinkedProgram.{linked}
use Rattle.hierarchy.specs.Superinterfaces.{IsTable, superinterfaces}
use Rattle.hierarchy.specs.Fields.{field_order}
use Rattle.hierarchy.specs.InheritedLists.{inherited}
use Rattle.hierarchy.specs.MemberPlaces.{HavePlaces}
use Rattle.hierarchy.specs.Objects.{object_fields}
use Rattle.hierarchy.specs.Quoted.{quoted_texts, cells_of}

-- the tables are those of these classes, in either edition
pub record AreTables (classes : List Class) (t : Tables) : Type 0 where
  pub superinterfaces : IsTable (superinterfaces classes) (length classes) t.superinterfaces.items
  pub field_orders : IsTable (λ c. distinct (field_order classes c)) (length classes) t.field_orders.items
  pub inherited : IsTable (inherited classes) (length classes) t.inherited.items
  pub quoted : t.quoted ≡ quoted_texts classes
  pub cells : cells_of classes ≤ 1000000
  pub object_cells : IsTable (λ c. length (object_fields (linked classes) c)) (length classes) t.object_cells.items
  pub members : HavePlaces classes t.members.items
