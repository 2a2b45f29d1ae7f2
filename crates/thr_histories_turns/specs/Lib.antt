pub mod MachineScripts
pub mod Words
