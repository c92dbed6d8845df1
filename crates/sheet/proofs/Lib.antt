mod CueBounds
mod ReadBack
mod WriteBack
mod WhatWasWritten
mod FaultPlaces
