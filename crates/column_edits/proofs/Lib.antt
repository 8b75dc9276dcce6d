pub mod Laying
pub mod Places
pub mod Names
pub mod PlanRules
pub mod TableRules
pub mod Standing
pub mod ChangeLaws
pub mod FormulaLaws
pub mod FormulaCalls
pub mod FillStays
mod Examples
