mod ArgumentLaws
pub mod BlockInduction
mod BlockLaws
pub mod Bodies
mod CallLaws
mod CallTables
pub mod FaultLemmas
mod FlowLaws
mod FunctionLaws
mod InTurnLaws
mod JudgedLaws
mod Live
pub mod ProgramDeclared
pub mod Functionwise
pub mod Growing
pub mod Headings
pub mod LooseJumps
pub mod Numbering
pub mod NumberingCalls
pub mod NumberingLeaves
pub mod NumberingTops
pub mod Passing
mod Peeled
pub mod ProgramFits
pub mod ProgramRules
pub mod ProgramVariables
pub mod Rows
pub mod Standing
pub mod TableLemmas
mod StatementLaws
pub mod VisibleParts
pub mod VisibleBlocks
pub mod TypedBlocks
pub mod TypedCalls
pub mod TypedExpressions
pub mod TypedParts
pub mod TypedPrograms
pub mod TypedStatements
mod Zeros
