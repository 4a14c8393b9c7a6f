pub mod ArcTables
pub mod SeenArcs
