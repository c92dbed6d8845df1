pub mod Rehearsals
