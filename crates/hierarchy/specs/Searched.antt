-- What a search for cycles answers.
use Rattle.std.specs.Prelude.{List}
use Rattle.hierarchy.specs.declared.class.Class.{Class}
use Rattle.hierarchy.specs.declared.upward.SearchResult.{SearchResult}
use Rattle.hierarchy.specs.declared.upward.SearchResult.TheVariants.{Cycle, Upward}
use Rattle.hierarchy.specs.Hierarchy.{IsAcyclic, IsFirstCyclic}
use Rattle.hierarchy.specs.UpwardOrder.{IsUpwardOrder}

-- the first class that is on a cycle, or an upward order where each way up ends
abbrev pub SearchOf : List Class → SearchResult → Type 0
SearchOf classes (Cycle n) = IsFirstCyclic classes n
SearchOf classes (Upward order) = IsUpwardOrder classes order.items × IsAcyclic classes
